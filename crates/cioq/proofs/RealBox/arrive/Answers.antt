use Rattle.std.proofs.Common.{◌≡◌, ◌-◌, ◌<◌, sym, ap, ◌∙◌, subst, arith}
use Rattle.words.specs.Lines.{Line, read_lines}
use Rattle.cioq.specs.State.{Good}
use Rattle.cioq.specs.Arrivals.{slot_lines, away}
use Rattle.cioq.proofs.Arrivals.{flags_none, flags_more, slot_read, slot_bring, admit-none, step_lines, step-slots, step_cut, step_brings, step_after, step-rest, step-away}
use Rattle.cioq.proofs.RealBox.arrive.Goals as goal

pub loop-input-init : goal.loop-input-init
loop-input-init c =
    let n = c.args.self.now.lines in
    let z : n - 0 ≡ n = omega arith in (
      sym (admit-none (slot_lines n c.args.bytes.now) c.args.self.now),
      ap (λ k. read_lines 64 k c.args.bytes.now) z ∙ slot_read n c.args.bytes.now c.requires.read,
      flags_none (away (slot_lines n c.args.bytes.now) c.args.self.now),
    )

pub returns-in_default : goal.returns-in_default
returns-in_default c =
    let s = c.args.self.now in
    let g = subst Good c.self.view_is c.self.invariant in
    let h : c.loop-input.input < s.lines = omega (arith, c.loop-input-test.true, ap (λ z. z.lines) c.self.view_is) in
    absurd (step_cut (slot_lines s.lines c.args.bytes.now) s c.loop-input.self c.loop-input.input c.loop-input.rest.now g (slot_bring s.lines c.args.bytes.now c.requires.read) h c.loop-input.invariant.0 c.loop-input.invariant.1 c.in_default.ensures)

pub admit-requires : goal.admit-requires
admit-requires c =
    let s = c.args.self.now in
    let ls = slot_lines s.lines c.args.bytes.now in
    let t = c.loop-input.self in
    let i = c.loop-input.invariant in
    let g = subst Good c.self.view_is c.self.invariant in
    let h : c.loop-input.input < s.lines = omega (arith, c.loop-input-test.true, ap (λ z. z.lines) c.self.view_is) in
    let b = slot_bring s.lines c.args.bytes.now c.requires.read in
    let n = step_lines ls s t c.loop-input.input c.loop-input.rest.now g b h i.0 i.1 in
    let k = step-slots ls s t c.loop-input.input c.loop-input.rest.now g b h i.0 i.1 in
    record {
      early = omega (arith, c.requires.early);
      there = omega (arith, h);
      brings = step_brings ls s t c.loop-input.input c.loop-input.rest.now g b h i.0 i.1 (record { arrival = c.in-Some.entry.arrival; body = c.in-Some.entry.body.now }) c.in-Some.entry.rest.now c.in-Some.ensures;
    }

pub loop-input-preserved : goal.loop-input-preserved
loop-input-preserved c =
    let s = c.args.self.now in
    let ls = slot_lines s.lines c.args.bytes.now in
    let t = c.loop-input.self in
    let i = c.loop-input.invariant in
    let g = subst Good c.self.view_is c.self.invariant in
    let h : c.loop-input.input < s.lines = omega (arith, c.loop-input-test.true, ap (λ z. z.lines) c.self.view_is) in
    let b = slot_bring s.lines c.args.bytes.now c.requires.read in
    let few : c.loop-input.input < 32 = omega (arith, g.few, h) in
    let line : Line = record { arrival = c.in-Some.entry.arrival; body = c.in-Some.entry.body.now } in (
      step_after ls s t c.loop-input.input c.loop-input.rest.now g b h i.0 i.1 line c.in-Some.entry.rest.now c.in-Some.ensures _ c.admit.ensures.after,
      step-rest ls s t c.loop-input.input c.loop-input.rest.now g b h i.0 i.1 line c.in-Some.entry.rest.now c.in-Some.ensures,
      flags_more c.loop-input.away c.loop-input.input (away ls s) c.admit.result i.2 few (step-away ls s t c.loop-input.input c.loop-input.rest.now g b h i.0 i.1 line c.in-Some.entry.rest.now c.in-Some.ensures c.admit.result c.admit.ensures.away),
    )
