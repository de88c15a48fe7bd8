use Rattle.std.proofs.Common.{◌≡◌, ℕ, zero, suc, ◌+◌, ◌<◌, Bool, eqb, true, false, not, cond, refl, sym, ap, ◌∙◌, subst, arith}
use Rattle.std.proofs.lemmas.Bool.{eqb-false}
use Rattle.buffer.specs.Memory.{Mem, remove}
use Rattle.cioq.specs.State.{Good, Counted, seen}
use Rattle.cioq.specs.Departures.{without_first}
use Rattle.cioq.proofs.Departures.{without_good}
use Rattle.cioq.proofs.RealBox.depart_one.Goals as goal

not_is : (b : Bool) → not b ≡ true → b ≡ false
not_is true e = sym e
not_is false e = refl

not_none : (k : ℕ) → eqb k 0 ≡ false → 0 < k
not_none zero e = absurd (eqb-false 0 0 e refl)
not_none (suc k) e = omega arith

pub invariant_of-self : goal.invariant_of-self
invariant_of-self c =
    let b = c.self.inside in
    let s = seen b.memory b.held b.lines b.slots in
    let o = c.args.output in
    let there : o < b.lines = omega (arith, c.requires.there, ap (λ z. z.lines) c.self.view_is) in
    let some = not_is _ (sym c.leave.ensures.left ∙ c.if-leave.true) in
    let after = c.leave.ensures.after ∙ ap (λ (e : Bool). cond e s.mem (remove (s.lines + o) 0 s.mem)) some in
    subst (λ (m : Mem). Good (record { mem = m; counts = (without_first o s).counts; lines = b.lines; slots = b.slots })) (sym after)
    (without_good s o c.self.invariant there (not_none _ some) (subst Counted (sym c.self.view_is) c.requires.counted o there))
