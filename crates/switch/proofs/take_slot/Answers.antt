use Rattle.std.proofs.Common.{◌≡◌, ℕ, leb, Bool, false, cond, List, Ok, Err, Option, sym, ap, ◌∙◌, arith}
use Rattle.std.proofs.lemmas.Bool.{leb-false}
use Rattle.words.specs.declared.fault.Fault.TheVariants.{NoSuchOutput, SlotLimit}
use Rattle.words.specs.Lines.{Line, judge, judged, verdict}
use Rattle.words.proofs.Scans.{verdict_good}
use Rattle.switch.specs.Respond.Status.{Running}
use Rattle.switch.proofs.take_slot.Goals as goal

-- what was judged good was in time, and has lines
judged_good : (n : ℕ) (late : Bool) (bytes : List ℕ) → Ok tt ≡ verdict (judge n 64 late bytes) → (ls : List Line) × (judge n 64 late bytes ≡ Ok ls) × (late ≡ false)
judged_good n late bytes e =
    let a = verdict_good n 64 late bytes e in (
      a.lines,
      ap (λ (o : Option (List Line)). judged n late o) a.read ∙ (ap (λ (w : Bool). cond w (cond late (Err SlotLimit) (Ok a.lines)) (Err NoSuchOutput)) a.fit ∙ ap (λ (w : Bool). cond w (Err SlotLimit) (Ok a.lines)) a.on_time),
      a.on_time,
    )

pub slot-requires : goal.slot-requires
slot-requires g c =
    let n = c.requires.0 in
    let past = c.requires.1 in
    let h = c.requires.2 in
    let lines = c.lines.ensures.lines (Running n past) h in
    let slots = c.slots-late.ensures n past h in
    let j = judged_good c.lines.result (leb 4294967296 c.slots-late.result) c.args.lines.now (sym c.in_ok-judge_lines.was ∙ c.judge_lines.ensures) in
    let now = ap (λ (late : Bool). judge c.lines.result 64 late c.args.lines.now) (sym j.2) ∙ j.1 in (
      n,
      past,
      j.0,
      h,
      omega (arith, slots, leb-false 4294967296 c.slots-late.result j.2),
      ap (λ (k : ℕ). judge k 64 false c.args.lines.now) (sym lines) ∙ now,
    )
