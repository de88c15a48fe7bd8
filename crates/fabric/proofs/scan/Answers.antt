use Rattle.std.proofs.Common.{sym, arith}
use Rattle.matching.proofs.Making.{table_alike}
use Rattle.fabric.specs.Real.{up_to}
use Rattle.fabric.proofs.Lists.{grown-more, list_done, so_far, aimed_at}
use Rattle.fabric.proofs.scan.Goals as goal

pub overflow_cast-k : goal.overflow_cast-k
overflow_cast-k c = omega (arith, c.waiting-k-end.ensures.short)

pub note-requires : goal.note-requires
note-requires c =
    (c.requires.there.0, aimed_at c.args.real.now c.args.input c.loop-k.k c.waiting_cell.result c.requires.aimed c.requires.there.1 (omega (arith, c.waiting-k-end.ensures.waiting, c.loop-k-test.true)) c.waiting_cell.ensures)

pub loop-k-preserved : goal.loop-k-preserved
loop-k-preserved c =
    λ m. table_alike _ _ _ (grown-more c.args.real.now c.args.input c.loop-k.k c.waiting_cell.result (omega (arith, c.waiting-k-end.ensures.waiting, c.loop-k-test.true)) c.waiting_cell.ensures)
    (c.note.ensures (up_to c.args.real.now c.args.input c.loop-k.k) (c.loop-k.invariant m) (sym (so_far c.args.real.now c.args.input c.loop-k.k (omega (arith, c.waiting-k-end.ensures.waiting, c.loop-k-test.true)))))

pub returns : goal.returns
returns c =
    λ m. table_alike _ _ _ (list_done c.args.real.now c.args.input c.loop-k.k (omega (arith, c.waiting-k-end.ensures.waiting, c.loop-k-test.false))) (c.loop-k.invariant m)
