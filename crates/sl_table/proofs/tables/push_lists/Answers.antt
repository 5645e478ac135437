use Rattle.std.proofs.Common.{◌≡◌, ◌≤◌, ◌+◌, ◌*◌, ℕ, List, length, get_or, ap, sym, ◌∙◌, arith}
use Rattle.std.proofs.lemmas.List.{append-nil}
use Rattle.std.proofs.lemmas.Nat.{row_fits}
use Rattle.sl_law_meaning.specs.declared.table.ListSeats.{ListSeats}
use Rattle.sl_law_meaning.specs.returns.Election.{has_list, lands_of, parties_of}
use Rattle.sl_law_meaning.specs.meaning.Seating.{placed_on}
use Rattle.sl_law_meaning.proofs.meaning.ListPlaces.{length_by_list, by_list_at}
use Rattle.sl_code_semantics.specs.Tables.{held_line}
use Rattle.sl_table.proofs.Pieces.{kept_more, kept_same}
use Rattle.sl_table.proofs.tables.push_lists.Goals as goal
use Rattle.sl_table.proofs.tables.push_lists.Goals.{then-is_list+in-Ok, else-is_list}

pub bounds-direct-place : goal.bounds-direct-place
bounds-direct-place c =
    let e = c.args.returns.now in
    let p = c.parties-parties.result in
    let size : length c.args.direct.now ≡ lands_of e * parties_of e = ap length c.requires.direct ∙ length_by_list e (placed_on e c.args.memory.now.placed) in
    let row : c.args.land * p + p ≤ lands_of e * parties_of e = row_fits c.args.land p (lands_of e) (parties_of e) c.requires.land (omega (arith, c.parties-parties.ensures.number)) in
    omega (arith, size, row)

pub loop-party-init : goal.loop-party-init
loop-party-init c = sym (append-nil c.args.lists.now.items)

pub loop-party-preserved : goal.loop-party-preserved
loop-party-preserved c =
    let e = c.args.returns.now in
    let h = c.args.memory.now in
    let land = c.args.land in
    let party = c.loop-party.party in
    elim c.if-is_list.branch [
      | then-is_list+in-Ok w ↦
          let list : ℕ → ℕ → ℕ → ListSeats = λ seats direct vacant. record { land = land; party = party; seats = seats; direct = direct; vacant = vacant } in
          let at : ℕ → List ℕ → List ℕ → List ℕ → ListSeats =
          λ p base direct vacant. list (get_or base (land * p + party) 0) (get_or direct (land * p + party) 0) (get_or vacant (land * p + party) 0) in
          let number = c.parties-parties.ensures.number in
          let here : at c.parties-parties.result w.base.result.now c.args.direct.now w.vacant.result.now ≡ held_line e h land party =
          ap (λ p. at p w.base.result.now c.args.direct.now w.vacant.result.now) number
          ∙ ap (λ base. at (parties_of e) base c.args.direct.now w.vacant.result.now) w.base.ensures
          ∙ ap (λ vacant. at (parties_of e) h.base c.args.direct.now vacant) w.vacant.ensures
          ∙ ap (λ direct. at (parties_of e) h.base direct h.vacant) c.requires.direct
          ∙ ap (λ n. list (get_or h.base (land * parties_of e + party) 0) n (get_or h.vacant (land * parties_of e + party) 0))
          (by_list_at e (placed_on e h.placed) land party c.requires.land (omega (arith, number))) in
          kept_more (held_line e h land) (has_list e land) party c.args.lists.now.items c.loop-party.lists.items c.if-is_list.lists.items c.loop-party.invariant _
          (sym c.is_list.ensures ∙ w.if-is_list.true) (ap (λ v. v.items) w.lists-is ∙ w.in-Ok.ensures.items) here
      | else-is_list w ↦
          kept_same (held_line e h land) (has_list e land) party c.args.lists.now.items c.loop-party.lists.items c.if-is_list.lists.items c.loop-party.invariant
          (sym c.is_list.ensures ∙ w.if-is_list.false) (ap (λ v. v.items) w.lists-is)
    ]
