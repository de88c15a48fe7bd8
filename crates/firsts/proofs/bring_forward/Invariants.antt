use Rattle.std.proofs.Common.{◌≡◌, ◌++◌, map, take, drop}
use Rattle.firsts.specs.Firsts.{sooner}
use Rattle.firsts.proofs.bring_forward.Given as goal

abbrev pub invariant-loop-place : goal.invariant-loop-place
invariant-loop-place l =
    l.places ≡ map (sooner l.k) (take l.place-index l.initial.places) ++ drop l.place-index l.initial.places
