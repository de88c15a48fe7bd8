use Rattle.std.proofs.Common.{◌≡◌, ℕ, ◌+◌, ◌<◌, Bool, List, set, nat_eq, sym, refl, ap, ◌∙◌, subst, arith}
use lib.Pointwise.{pointwise}
use Rattle.std.proofs.lemmas.Bool.Decides.{Decides-eqb}
use Rattle.std.proofs.lemmas.Slice.Eq.{slice_eq-Decides}
use Rattle.crowd.specs.Parts.{part, part_of, behind_all}
use Rattle.crowd.proofs.Parts.{Told, behind_more, told_more}
use Rattle.crowd.proofs.print.differs.Goals as goal

pub loop-output-init : goal.loop-output-init
unfolding behind_all
loop-output-init c = (refl, refl, (refl, λ o h. absurd (omega arith), λ o h. absurd (omega arith)))

pub loop-output-preserved : goal.loop-output-preserved
loop-output-preserved c =
    let k = c.loop-output.output in
    let x = c.args.real.now in
    let y = c.args.ideal.now in
    let p : c.next_part-one.result.bytes.now ≡ part_of k x = c.next_part-one.ensures.part ∙ ap (λ (l : List ℕ). part l) c.loop-output.invariant.0 in
    let q : c.next_part-other.result.bytes.now ≡ part_of k y = c.next_part-other.ensures.part ∙ ap (λ (l : List ℕ). part l) c.loop-output.invariant.1 in
    let few : k < 32 = omega (arith, c.requires, c.loop-output-test.true) in
    let alike = pointwise nat_eq c.next_part-one.result.bytes.now c.next_part-other.result.bytes.now in
    let d = slice_eq-Decides Decides-eqb c.next_part-one.result.bytes.now c.next_part-other.result.bytes.now alike refl in (
      c.next_part-one.ensures.rest ∙ behind_more k c.loop-output.a.now x c.loop-output.invariant.0,
      c.next_part-other.ensures.rest ∙ behind_more k c.loop-output.b.now y c.loop-output.invariant.1,
      subst (λ (r : Bool). Told (set c.loop-output.found k r) (k + 1) x y) (sym c.ne.ensures)
          (told_more c.loop-output.found k x y alike few c.loop-output.invariant.2 (λ h. sym p ∙ (d.0 h ∙ q)) (λ e. d.1 (p ∙ (e ∙ sym q)))),
    )

pub returns : goal.returns
returns c =
    let t = c.loop-output.invariant.2 in
    record {
      where_they_differ = λ o h e. t.1 o (omega arith) e;
      alike = λ e o h. t.2 o (omega arith) (ap (λ (l : List ℕ). part_of o l) e);
      where_they_agree = λ o h e. t.2 o (omega arith) e;
    }
