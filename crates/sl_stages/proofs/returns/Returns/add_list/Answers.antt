-- The returns with a list more.
use Rattle.std.proofs.Common.{◌≡◌, ◌<◌, List, Option, None, length, ap, sym, subst, ◌∙◌, arith}
use Rattle.std.proofs.lemmas.List.{length-map}
use Rattle.std.proofs.lemmas.Option.{none-some}
use Rattle.sl_law_meaning.specs.declared.election.ListVotes.{ListVotes}
use Rattle.sl_law_meaning.specs.returns.Election.{Election, IsElection, list_at, with_list}
use Rattle.sl_stages.specs.inner.Kept.{election_of}
use Rattle.sl_law_meaning.proofs.Elections.{cell_within, is_with_list, list_told}
use Rattle.sl_stages.proofs.returns.Returns.add_list.Goals as goal
use Rattle.sl_stages.proofs.returns.Returns.add_list.Goals.{After-write_cell}

pub write_cell-requires : goal.write_cell-requires
write_cell-requires c =
    let e = election_of c.self.inside in
    let kept = c.self.invariant in
    let land : c.args.land < length e.land_names = subst (λ (e : Election). c.args.land < length e.land_names) (sym c.self.view_is) c.requires.land in
    let party : c.args.party < length e.party_names = subst (λ (e : Election). c.args.party < length e.party_names) (sym c.self.view_is) c.requires.party in
    record {
      land = omega (arith, land, kept.rows, length-map c.self.inside.rows.items (λ row. row.items));
      party = cell_within e c.args.land c.args.party kept land party;
      votes = record { counted = c.requires.counted; valid = c.requires.valid; slate = λ n e. absurd (none-some n e) };
    }

-- the list's votes
abbrev votes : After-write_cell → ListVotes
votes c = record { valid = c.args.valid; counted = c.args.counted; slate = None }

-- the election that the fields keep in the end
joined : (c : After-write_cell) → election_of (record c.self.inside { rows = c.write_cell.new.rows }) ≡ with_list (election_of c.self.inside) c.args.land c.args.party (votes c)
joined c = ap (λ (rows : List (List (Option ListVotes))). record (election_of c.self.inside) { cells = rows }) c.write_cell.ensures

pub invariant_of-self : goal.invariant_of-self
invariant_of-self c =
    let land : c.args.land < length (election_of c.self.inside).land_names = subst (λ (e : Election). c.args.land < length e.land_names) (sym c.self.view_is) c.requires.land in
    let party : c.args.party < length (election_of c.self.inside).party_names = subst (λ (e : Election). c.args.party < length e.party_names) (sym c.self.view_is) c.requires.party in
    subst IsElection (sym (joined c)) (is_with_list (election_of c.self.inside) c.args.land c.args.party (votes c) c.self.invariant land party (record { counted = c.requires.counted; valid = c.requires.valid; slate = λ n e. absurd (none-some n e) }))

pub returns-clause-added : goal.returns-clause-added
returns-clause-added c = joined c ∙ ap (λ e. with_list e c.args.land c.args.party (votes c)) c.self.view_is

pub returns-clause-listed : goal.returns-clause-listed
returns-clause-listed c =
    let e = election_of c.self.inside in
    let land : c.args.land < length e.land_names = subst (λ (e : Election). c.args.land < length e.land_names) (sym c.self.view_is) c.requires.land in
    let party : c.args.party < length e.party_names = subst (λ (e : Election). c.args.party < length e.party_names) (sym c.self.view_is) c.requires.party in
    ap (λ e. list_at e c.args.land c.args.party) (joined c) ∙ list_told e c.args.land c.args.party (votes c) c.self.invariant land party
