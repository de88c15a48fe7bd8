use Rattle.std.proofs.Common.{◌≡◌, ◌+◌, ◌-◌, Bool, ◌&&◌, sym, refl, ap, ◌∙◌, arith}
use Rattle.crossbox.specs.declared.Arrival.{Arrival}
use Rattle.words.specs.Lines.{fits}
use Rattle.words.proofs.Scans.{scan, and_true, scan_step, judge-cut, judge-more, judge_misfit, judge_late, judge_good}
use Rattle.words.proofs.read.judge_lines.Goals as goal
use Rattle.words.proofs.read.judge_lines.Goals.{in-For, in_default-arrival}

pub returns-in_default : goal.returns-in_default
returns-in_default c = judge-cut _ _ _ _ _ _ _ c.loop.invariant (omega arith) c.in_default.ensures

pub loop-preserved : goal.loop-preserved
loop-preserved c =
    let n = c.args.n in
    let all = c.loop.all_fit in
    let left = n - (c.loop.counter + 1) in
    let same : c.match-entry.all_fit ≡ (all && fits n c.in-Some.entry.arrival) = elim c.match-entry.branch [
      | in-For w ↦ w.all_fit-is ∙ ap (λ (a : Arrival). all && fits n a) (sym w.in-For.is)
      | in_default-arrival w ↦
          w.all_fit-is ∙ sym (and_true all) ∙ ap (λ (a : Arrival). all && fits n a) (sym w.in_default-arrival.is)
    ] in
    ap (λ (now : Bool). scan n c.args.size left now c.in-Some.entry.rest.now) same
    ∙ scan_step n c.args.size (n - c.loop.counter) all c.loop.rest.now
    (record { arrival = c.in-Some.entry.arrival; body = c.in-Some.entry.body.now }) c.in-Some.entry.rest.now
    left (fits n c.in-Some.entry.arrival) (omega arith) refl c.in-Some.ensures
    ∙ c.loop.invariant

pub returns-then-rest-gt0 : goal.returns-then-rest-gt0
returns-then-rest-gt0 c = judge-more _ _ _ _ _ _ _ c.loop.invariant (omega arith) c.if-rest-gt0.true

pub returns-then-not-all_fit : goal.returns-then-not-all_fit
returns-then-not-all_fit c =
    judge_misfit _ _ _ _ _ _ _ c.loop.invariant (omega arith) c.if-rest-gt0.false c.if-not-all_fit.true

pub returns-then-late : goal.returns-then-late
returns-then-late c =
    judge_late _ _ _ _ _ _ _ c.loop.invariant (omega arith) c.if-rest-gt0.false c.if-not-all_fit.false c.if-late.true

pub returns : goal.returns
returns c =
    judge_good _ _ _ _ _ _ _ c.loop.invariant (omega arith) c.if-rest-gt0.false c.if-not-all_fit.false c.if-late.false
