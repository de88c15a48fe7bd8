use Rattle.std.proofs.Common.{vec_items}
use Rattle.serve.proofs.Pieces.{Fed}
use Rattle.serve.proofs.stream.answers_by_pieces.Given as goal

abbrev pub invariant-loop-piece : goal.invariant-loop-piece
invariant-loop-piece g l =
    Fed g.S.Switch.shows l.input l.piece-iterator.rest.now (vec_items l.stream.pending) l.initial.stream.service l.stream.service
