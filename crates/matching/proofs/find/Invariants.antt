use Rattle.std.proofs.Common.{◌≡◌, length, sum_by}
use Rattle.crossbox.specs.Box.{Box}
use Rattle.crossbox.specs.Matching.{after_asks}
use Rattle.matching.specs.Table.{Ties}
use Rattle.matching.specs.Loop.{Tied}
use Rattle.matching.proofs.find.Given as goal

abbrev pub invariant-asks : goal.invariant-asks
invariant-asks l =
    (length l.choice ≡ 32)
    × (length l.askable ≡ 32)
    × ((b : Box) → Ties l.firsts l.n b → Tied l.n b (after_asks l.asks l.n b) (record { choice = l.choice; askable = l.askable; asking = l.asking }) × ((after_asks l.asks l.n b).asks ≡ l.asks))

abbrev pub decreases-asks : goal.decreases-asks
decreases-asks l = sum_by (λ x. x) l.askable
