-- The returns with the names left on a list.
use Rattle.std.proofs.Common.{◌≡◌, ◌<◌, ℕ, List, Option, Some, length, sym, subst, ◌∙◌, ap}
use Rattle.sl_law_meaning.specs.declared.election.ListVotes.{ListVotes}
use Rattle.sl_law_meaning.specs.returns.Votes.{valid_in, counted_in}
use Rattle.sl_law_meaning.specs.returns.Election.{Election, IsElection, list_at, with_list, with_slate}
use Rattle.sl_stages.specs.inner.Kept.{election_of}
use Rattle.sl_law_meaning.proofs.Elections.{is_with_slate}
use Rattle.sl_stages.proofs.returns.Returns.set_slate.Goals as goal
use Rattle.sl_stages.proofs.returns.Returns.set_slate.Goals.{After-write_cell}

-- the election that the fields keep in the end
joined : (c : After-write_cell) → election_of (record c.self.inside { rows = c.write_cell.new.rows }) ≡ with_slate (election_of c.self.inside) c.args.land c.args.party c.args.names
joined c =
    let e = election_of c.self.inside in
    let valid = c.valid.ensures ∙ ap (λ e. valid_in (list_at e c.args.land c.args.party)) (sym c.self.view_is) in
    let counted = c.counted.ensures ∙ ap (λ e. counted_in (list_at e c.args.land c.args.party)) (sym c.self.view_is) in
    let land = c.args.land in
    let party = c.args.party in
    let names = Some c.args.names in
    ap (λ (rows : List (List (Option ListVotes))). record e { cells = rows }) c.write_cell.ensures
    ∙ ap (λ (n : ℕ). with_list e land party (record { valid = n; counted = c.counted.result; slate = names })) valid
    ∙ ap (λ (n : ℕ). with_list e land party (record { valid = valid_in (list_at e land party); counted = n; slate = names })) counted

pub invariant_of-self : goal.invariant_of-self
invariant_of-self c =
    let e = election_of c.self.inside in
    let land : c.args.land < length e.land_names = subst (λ (e : Election). c.args.land < length e.land_names) (sym c.self.view_is) c.requires.land in
    let party : c.args.party < length e.party_names = subst (λ (e : Election). c.args.party < length e.party_names) (sym c.self.view_is) c.requires.party in
    subst IsElection (sym (joined c)) (is_with_slate e c.args.land c.args.party c.args.names c.self.invariant land party c.requires.names)
