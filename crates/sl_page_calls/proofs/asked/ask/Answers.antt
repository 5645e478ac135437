use Rattle.std.proofs.Common.{inl, inr, map, refl, string_bytes, subst, ◌∷◌, ◌≡◌, ◌⊎◌}
use Rattle.std.specs.Option.{MatchOption}
use Rattle.sl_explain_texts.specs.declared.language.Language.TheVariants.{English}
use Rattle.sl_page_calls.proofs.asked.ask.Goals as goal
use Rattle.sl_page_calls.specs.Asking.{AreUnread, program, words_given}
use Rattle.sl_terminal_commands.specs.Replies.{IsReplyTo}
use Rattle.sl_terminal_outside.specs.Shelves.{bytes_at}

either : {A B C : Type 0} → (A → C) → (B → C) → A ⊎ B → C
either f g (inl a) = f a
either f g (inr b) = g b

pub returns-in-Ok-Some : goal.returns-in-Ok-Some
returns-in-Ok-Some g c =
    let text = g.F.Forms.is_text c.args.forms.now in
    let about = g.S.Speech.is_about c.args.speech.now in
    let bytes = bytes_at c.args.files.now in
    let r = c.reply_to-reply.result in
    let given = c.args.words.now in
    let read = subst (λ o. MatchOption o (AreUnread given) (λ all. map string_bytes all.items ≡ program ∷ words_given given)) c.in-Ok-Some.field-0-is c.in-Ok-Some.ensures in
    either
    (
    λ is.
    inl (
      r,
      subst (λ ws. IsReplyTo text about English bytes ws r) read
          (subst (λ ws. IsReplyTo text about English bytes (map string_bytes ws) r) c.as_slice.ensures.value c.reply_to-reply.ensures),
      is,
    )
    )
    (λ none. inr (inr none)) c.reply-handed.ensures

pub returns-in-Ok-None : goal.returns-in-Ok-None
returns-in-Ok-None g c =
    let given = c.args.words.now in
    let bad = subst (λ o. MatchOption o (AreUnread given) (λ all. map string_bytes all.items ≡ program ∷ words_given given)) c.in-Ok-None.field-0-is c.in-Ok-None.ensures in
    either (λ unread. inr (inl (bad, unread))) (λ none. inr (inr none)) c.unreadable.ensures

pub returns-in-Err : goal.returns-in-Err
returns-in-Err g c = inr (inr (record { status = refl; out = refl; err = refl; made = refl }))
