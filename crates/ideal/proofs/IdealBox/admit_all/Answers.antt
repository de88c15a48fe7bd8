use Rattle.std.proofs.Common.{◌≡◌, ℕ, ◌-◌, ◌<◌, refl, ap, ◌∙◌, arith}
use Rattle.words.specs.Lines.{no_line, read_lines}
use Rattle.words.proofs.Lines.{line_there, line_at}
use Rattle.ideal.specs.State.{State}
use Rattle.ideal.specs.Steps.{lines_of, away}
use Rattle.ideal.proofs.Good.{reads_bring}
use Rattle.ideal.proofs.Loops.{admitted-none, admitted-more, away_here, brings_now, flags_more}
use Rattle.ideal.proofs.IdealBox.admit_all.Goals as goal

pub loop-input-init : goal.loop-input-init
loop-input-init c =
    let n = c.args.self.now.lines in
    let bytes = c.args.bytes.now in
    let z : n - 0 ≡ n = omega arith in (
      admitted-none (lines_of n bytes) c.args.self.now,
      ap (λ (k : ℕ). read_lines 64 k bytes) z ∙ c.requires.read.0,
      (refl, λ i h. absurd (omega arith)),
    )

pub returns-in_default : goal.returns-in_default
returns-in_default c =
    let there : c.loop-input.input < c.args.self.now.lines = omega (arith, c.loop-input-test.true, ap (λ (z : State). z.lines) c.self.view_is) in
    let n = c.args.self.now.lines in
    absurd (line_there 64 n c.loop-input.input c.loop-input.rest.now (lines_of n c.args.bytes.now) c.loop-input.invariant.1 there c.in_default.ensures)

pub admit-requires-clause-brings : goal.admit-requires-clause-brings
admit-requires-clause-brings c =
    let there : c.loop-input.input < c.args.self.now.lines = omega (arith, c.loop-input-test.true, ap (λ (z : State). z.lines) c.self.view_is) in
    let n = c.args.self.now.lines in
    let ls = lines_of n c.args.bytes.now in
    let entry = c.in-Some.entry in
    let l = line_at 64 n c.loop-input.input c.loop-input.rest.now ls c.loop-input.invariant.1 there (record { arrival = entry.arrival; body = entry.body.now }) entry.rest.now no_line c.in-Some.ensures in
    brings_now c.args.self.now ls c.loop-input.input c.loop-input.self c.loop-input.invariant.0 entry.arrival entry.body.now l.0 (reads_bring n c.args.bytes.now c.requires.read) there

pub loop-input-preserved : goal.loop-input-preserved
loop-input-preserved c =
    let there : c.loop-input.input < c.args.self.now.lines = omega (arith, c.loop-input-test.true, ap (λ (z : State). z.lines) c.self.view_is) in
    let s = c.args.self.now in
    let ls = lines_of s.lines c.args.bytes.now in
    let i = c.loop-input.input in
    let inv = c.loop-input.invariant in
    let before = c.loop-input.self in
    let entry = c.in-Some.entry in
    let l = line_at 64 s.lines i c.loop-input.rest.now ls inv.1 there (record { arrival = entry.arrival; body = entry.body.now }) entry.rest.now no_line c.in-Some.ensures in
    let r = away_here s ls i before inv.0 entry.arrival entry.body.now c.admit.result l.0 c.admit.ensures.away in
    let f = flags_more (away s.slots ls s.mem) c.loop-input.turned_away i c.admit.result inv.2.0 (omega (arith, c.self.invariant.few, ap (λ (z : State). z.lines) c.self.view_is, there)) r inv.2.1 in (
      admitted-more s ls i before inv.0 entry.arrival entry.body.now c.admit.new.self l.0 c.admit.ensures.after,
      l.1,
      (f.0, f.1),
    )
