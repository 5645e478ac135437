use Rattle.std.proofs.Common.{◌++◌, ◌+◌, Option, sym, ap, ◌∙◌}
use Rattle.std.proofs.lemmas.List.{append-nil, take_rest}
use Rattle.sl_lex.specs.declared.token.Kind.{Kind}
use Rattle.sl_lex.proofs.Cuts.{cut_more, token_at}
use Rattle.sl_lex.proofs.scan.lex.Goals as goal

pub pieces-preserved-in_ok-push : goal.pieces-preserved-in_ok-push
pieces-preserved-in_ok-push c =
    cut_more _ _ _ _ _ _ _ c.pieces.invariant (take_rest c.args.text.now c.pieces.start) c.in_ok-piece.ensures.ok
    (c.in_ok-push.ensures.items ∙ ap (λ (k : Option Kind). c.pieces.tokens.items ++ token_at c.pieces.start (c.pieces.start + c.in_ok-piece.piece.len) k) (sym c.in-Some.is))

pub pieces-preserved : goal.pieces-preserved
pieces-preserved c =
    cut_more _ _ _ _ _ _ _ c.pieces.invariant (take_rest c.args.text.now c.pieces.start) c.in_ok-piece.ensures.ok
    (sym (append-nil c.pieces.tokens.items) ∙ ap (λ (k : Option Kind). c.pieces.tokens.items ++ token_at c.pieces.start (c.pieces.start + c.in_ok-piece.piece.len) k) (sym c.in_default.is))
