use Rattle.std.proofs.Common.{◌≡◌, ◌++◌, map, take, drop}
use Rattle.firsts.specs.Firsts.{later}
use Rattle.firsts.proofs.put_back.Given as goal

abbrev pub invariant-loop-place : goal.invariant-loop-place
invariant-loop-place l =
    l.places ≡ map (later l.k) (take l.place-index l.initial.places) ++ drop l.place-index l.initial.places
