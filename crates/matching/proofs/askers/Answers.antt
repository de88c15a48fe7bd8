use Rattle.std.proofs.Common.{◌≡◌, ℕ, ◌∷◌, [], length, get_or, sym, ap, ◌∙◌, arith}
use Rattle.std.proofs.lemmas.Bool.Decides.{nat_tests}
use Rattle.std.proofs.lemmas.List.{length-append}
use Rattle.bits.proofs.Sets.{none-set}
use Rattle.crossbox.proofs.Lines.{line_turn}
use Rattle.matching.proofs.askers.Goals as goal

pub loop-o-init : goal.loop-o-init
loop-o-init c p = let z = none-set p in grind (arith, nat_tests, z)

pub with_asker-asking-requires : goal.with_asker-asking-requires
with_asker-asking-requires c =
    let a = line_turn c.args.n c.args.waiting.now c.zip-o-items.result c.zip-o-items.ensures.first c.zip-o-items.ensures.second.0 (omega (arith, c.requires, c.told-waiting)) c.into_iter-o-iterator.result c.into_iter-o-iterator.ensures.into_iter_gives c.loop-o.yielded c.loop-o.o-iterator c.next.new.self c.next.result c.loop-o.yielded_by c.next.ensures.steps (c.in-Some.o, c.in-Some.field-0-1) c.in-Some.is 0 in
    omega (arith, a.0, a.1.0, c.requires)

pub loop-o-preserved : goal.loop-o-preserved
loop-o-preserved c p =
    let a = line_turn c.args.n c.args.waiting.now c.zip-o-items.result c.zip-o-items.ensures.first c.zip-o-items.ensures.second.0 (omega (arith, c.requires, c.told-waiting)) c.into_iter-o-iterator.result c.into_iter-o-iterator.ensures.into_iter_gives c.loop-o.yielded c.loop-o.o-iterator c.next.new.self c.next.result c.loop-o.yielded_by c.next.ensures.steps (c.in-Some.o, c.in-Some.field-0-1) c.in-Some.is 0 in
    let k = length c.loop-o.yielded in
    let same : p ≡ k → get_or c.args.waiting.now p 0 ≡ c.in-Some.field-0-1.now = λ q. ap (λ (i : ℕ). get_or c.args.waiting.now i 0) q ∙ sym a.1.1 in
    let long = length-append c.loop-o.yielded ((c.in-Some.o, c.in-Some.field-0-1) ∷ []) in
    let now = c.with_asker-asking.ensures p in
    let before = c.loop-o.invariant p in
    let at = a.1.0 in
    grind (arith, nat_tests, same, long, now, before, at)
