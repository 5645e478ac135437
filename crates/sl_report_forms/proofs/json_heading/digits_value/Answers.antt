use Rattle.std.proofs.Common.{◌≡◌, ℕ, zero, suc, ◌/◌, ◌%◌, ◌<◌, List, [], ◌∷◌, ◌&&◌, nat_lt, slice_index, get_or, take, Bool, true, false, Option, Some, None, IfSome, codes, string_bytes, sym, ap, ◌∙◌, refl, true≢false, arith, rules}
use Rattle.std.proofs.lemmas.Grind.{common_steps}
use Rattle.std.proofs.lemmas.List.{take_all}
use Rattle.std.proofs.lemmas.Nat.{and_mask}
use Rattle.std.proofs.lemmas.Option.{same_Some, none-some}
use Rattle.std.proofs.lemmas.Str.{encode_ascii}
use Rattle.std.specs.List.{list_all}
use Rattle.std.specs.Char.{encode_utf8}
use Rattle.serde_json.specs.Data.{string}
use Rattle.serde_json.specs.declared.value.Value.{the_lemmas}
use Rattle.sl_report_forms.specs.JsonForm.{hex, hex_digit}
use Rattle.sl_report_forms.proofs.json_heading.digits_value.Goals as goal

under_at : (x : ℕ) (b r : Bool) → nat_lt x 128 ≡ b → (b && r) ≡ true → (x < 128) × (r ≡ true)
under_at x true r is h = (grind arith, h)
under_at x false r is h = absurd (true≢false (sym h))

under : (xs : List ℕ) (n : ℕ) → list_all (λ x. nat_lt x 128) xs ≡ true → slice_index xs n < 128
under [] n h = omega arith
under (x ∷ xs) zero h = (under_at x (nat_lt x 128) (list_all (λ x. nat_lt x 128) xs) refl h).0
under (x ∷ xs) (suc n) h = under xs n (under_at x (nat_lt x 128) (list_all (λ x. nat_lt x 128) xs) refl h).1

one_byte : (n : ℕ) → encode_utf8 (hex_digit n) ≡ hex_digit n ∷ []
one_byte n = encode_ascii (hex_digit n) (under (codes "0123456789abcdef") n refl)

is_whole : (o : Option (List ℕ)) (xs ys : List ℕ) → IfSome o (λ d. d ≡ xs) → o ≡ Some ys → ys ≡ xs
is_whole (Some d) xs ys h e = sym (same_Some _ _ e) ∙ h
is_whole None xs ys h e = absurd (none-some _ e)

pub loop-byte-preserved : goal.loop-byte-preserved
loop-byte-preserved c =
    let bytes = c.args.bytes.now in
    let i = c.loop-byte.byte-index in
    let byte = get_or bytes i 0 in
    let high : encode_utf8 c.from-in-loop-byte.result ≡ hex_digit (byte / 16) ∷ [] =
    ap encode_utf8 (c.from-in-loop-byte.ensures ∙ ap hex_digit c.from.ensures) ∙ one_byte (byte / 16) in
    let low : encode_utf8 c.from-in-loop-byte-3.result ≡ hex_digit (byte % 16) ∷ [] =
    ap encode_utf8 (c.from-in-loop-byte-3.ensures ∙ ap hex_digit (c.from-in-loop-byte-2.ensures ∙ and_mask byte 4)) ∙ one_byte (byte % 16) in
    grind (arith, common_steps, high, low)

pub returns : goal.returns
returns c =
    let all = is_whole c.loop-byte.digits (hex (take c.loop-byte.byte-index c.args.bytes.now)) (string_bytes c.in_ok-finished.field-0) c.loop-byte.invariant c.in_ok-finished.ensures.ok
    ∙ ap hex (take_all c.loop-byte.byte-index c.args.bytes.now c.loop-byte-test.false) in
    search (rules, the_lemmas) ∙ ap string all
