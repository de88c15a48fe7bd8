use Rattle.std.proofs.Common.{◌≡◌, ℕ, length, take, rules, refl, ap, ◌∙◌, subst, sym, arith}
use Rattle.std.proofs.lemmas.List.{length-take}
use Rattle.words.specs.Writing.{Draft, appended}
use Rattle.words.specs.Answer.{flag_bytes}
use Rattle.buffer.specs.Lent.{lent_to}
use Rattle.cioq.specs.State.{State}
use Rattle.cioq.specs.Departures.{depart_all}
use Rattle.cioq.specs.Arrivals.{slot_lines}
use Rattle.switch.specs.Taking.{Serves}
use Rattle.fabric.specs.Real.{Shows}
use Rattle.fabric.proofs.Stages.{stage_tied, stage_aimed, stage_counted, stage_fits, stage_waits}
use Rattle.fabric.proofs.Slot.{one, three, first_stage, second_stage, third_stage, fourth_stage, slot_served}
use Rattle.fabric.proofs.Fabric.serve_slot.Goals as goal

pub choose-first-requires : goal.choose-first-requires
choose-first-requires c =
    let s = c.args.self.now.real in
    let past = c.requires.runs.0 in
    let bytes = c.args.lines.now in
    let h = c.requires.runs.1 in
    let read = c.requires.read in
    let b1 = one s past bytes h read in
    let s1 = c.arrive-turned_away.new.self in
    let e1 = c.arrive-turned_away.ensures.after in
    let g1 = first_stage s past bytes h read s1 e1 in
    record { aimed = stage_aimed _ _ _ _ s1 b1 g1; tied = (b1, stage_tied _ _ _ _ s1 b1 g1) }

pub transfer-requires : goal.transfer-requires
transfer-requires c =
    let s = c.args.self.now.real in
    let past = c.requires.runs.0 in
    let bytes = c.args.lines.now in
    let h = c.requires.runs.1 in
    let read = c.requires.read in
    let b1 = one s past bytes h read in
    let s1 = c.arrive-turned_away.new.self in
    let e1 = c.arrive-turned_away.ensures.after in
    let g1 = first_stage s past bytes h read s1 e1 in
    let r1 = c.choose-first.result in
    let f1 = c.choose-first.ensures b1 (stage_tied _ _ _ _ s1 b1 g1) in
    record { fits = stage_fits _ _ _ _ s1 b1 g1 r1 f1; waits = stage_waits _ _ _ _ s1 b1 g1 r1 f1 }

pub depart-requires : goal.depart-requires
depart-requires c =
    let s = c.args.self.now.real in
    let past = c.requires.runs.0 in
    let bytes = c.args.lines.now in
    let h = c.requires.runs.1 in
    let read = c.requires.read in
    let b1 = one s past bytes h read in
    let s1 = c.arrive-turned_away.new.self in
    let e1 = c.arrive-turned_away.ensures.after in
    let g1 = first_stage s past bytes h read s1 e1 in
    let r1 = c.choose-first.result in
    let f1 = c.choose-first.ensures b1 (stage_tied _ _ _ _ s1 b1 g1) in
    let s2 = c.transfer.new.self in
    let e2 = c.transfer.ensures in
    let g2 = second_stage s past bytes h read s1 s2 (depart_all s2.lines s2) s2 r1 r1 e1 e2 f1 refl in
    record { counted = stage_counted _ _ _ _ s2 _ g2; room = omega (arith, g2.lines, h.good.few, ap (λ (d : Draft). d.len) c.begin.ensures) }

pub choose-second-requires : goal.choose-second-requires
choose-second-requires c =
    let s = c.args.self.now.real in
    let past = c.requires.runs.0 in
    let bytes = c.args.lines.now in
    let h = c.requires.runs.1 in
    let read = c.requires.read in
    let b1 = one s past bytes h read in
    let s1 = c.arrive-turned_away.new.self in
    let e1 = c.arrive-turned_away.ensures.after in
    let g1 = first_stage s past bytes h read s1 e1 in
    let r1 = c.choose-first.result in
    let f1 = c.choose-first.ensures b1 (stage_tied _ _ _ _ s1 b1 g1) in
    let s2 = c.transfer.new.self in
    let e2 = c.transfer.ensures in
    let s3 = c.depart.new.self in
    let b3 = three s past bytes h read in
    let e3 = c.depart.ensures.after in
    let g3 = third_stage s past bytes h read s1 s2 s3 s3 r1 r1 e1 e2 f1 e3 in
    record { aimed = stage_aimed _ _ _ _ s3 b3 g3; tied = (b3, stage_tied _ _ _ _ s3 b3 g3) }

pub transfer-requires-2 : goal.transfer-requires-2
transfer-requires-2 c =
    let s = c.args.self.now.real in
    let past = c.requires.runs.0 in
    let bytes = c.args.lines.now in
    let h = c.requires.runs.1 in
    let read = c.requires.read in
    let b1 = one s past bytes h read in
    let s1 = c.arrive-turned_away.new.self in
    let e1 = c.arrive-turned_away.ensures.after in
    let g1 = first_stage s past bytes h read s1 e1 in
    let r1 = c.choose-first.result in
    let f1 = c.choose-first.ensures b1 (stage_tied _ _ _ _ s1 b1 g1) in
    let s2 = c.transfer.new.self in
    let e2 = c.transfer.ensures in
    let s3 = c.depart.new.self in
    let b3 = three s past bytes h read in
    let e3 = c.depart.ensures.after in
    let g3 = third_stage s past bytes h read s1 s2 s3 s3 r1 r1 e1 e2 f1 e3 in
    let r2 = c.choose-second.result in
    let f2 = c.choose-second.ensures b3 (stage_tied _ _ _ _ s3 b3 g3) in
    record { fits = stage_fits _ _ _ _ s3 b3 g3 r2 f2; waits = stage_waits _ _ _ _ s3 b3 g3 r2 f2 }

pub pass-requires : goal.pass-requires
pass-requires c =
    let s = c.args.self.now.real in
    let past = c.requires.runs.0 in
    let bytes = c.args.lines.now in
    let h = c.requires.runs.1 in
    let read = c.requires.read in
    let b1 = one s past bytes h read in
    let s1 = c.arrive-turned_away.new.self in
    let e1 = c.arrive-turned_away.ensures.after in
    let g1 = first_stage s past bytes h read s1 e1 in
    let r1 = c.choose-first.result in
    let f1 = c.choose-first.ensures b1 (stage_tied _ _ _ _ s1 b1 g1) in
    let s2 = c.transfer.new.self in
    let e2 = c.transfer.ensures in
    let s3 = c.depart.new.self in
    let b3 = three s past bytes h read in
    let e3 = c.depart.ensures.after in
    let g3 = third_stage s past bytes h read s1 s2 s3 s3 r1 r1 e1 e2 f1 e3 in
    let r2 = c.choose-second.result in
    let f2 = c.choose-second.ensures b3 (stage_tied _ _ _ _ s3 b3 g3) in
    let s4 = c.transfer-2.new.self in
    let e4 = c.transfer-2.ensures in
    let g4 = fourth_stage s past bytes h read s1 s2 s3 s4 r1 r2 e1 e2 f1 e3 e4 f2 in
    omega (arith, g4.slots_had, c.requires.early)

pub slice_bounds-turned_away-end : goal.slice_bounds-turned_away-end
slice_bounds-turned_away-end c =
    let all : length c.arrive-turned_away.result ≡ 32 = search rules in
    let few = c.requires.runs.1.good.few in
    omega (arith, c.lines-inputs.ensures.lines, all)

pub push_flags-requires : goal.push_flags-requires
push_flags-requires c =
    let s = c.args.self.now.real in
    let past = c.requires.runs.0 in
    let bytes = c.args.lines.now in
    let h = c.requires.runs.1 in
    let read = c.requires.read in
    let b1 = one s past bytes h read in
    let s1 = c.arrive-turned_away.new.self in
    let e1 = c.arrive-turned_away.ensures.after in
    let g1 = first_stage s past bytes h read s1 e1 in
    let r1 = c.choose-first.result in
    let f1 = c.choose-first.ensures b1 (stage_tied _ _ _ _ s1 b1 g1) in
    let s2 = c.transfer.new.self in
    let e2 = c.transfer.ensures in
    let s3 = c.depart.new.self in
    let b3 = three s past bytes h read in
    let e3 = c.depart.ensures.after in
    let g3 = third_stage s past bytes h read s1 s2 s3 s3 r1 r1 e1 e2 f1 e3 in
    let g2 = second_stage s past bytes h read s1 s2 s3 s2 r1 r1 e1 e2 f1 e3 in
    omega (arith, c.lines-inputs.ensures.lines, g2.lines, h.good.few, c.depart.ensures.short, ap (λ (d : Draft). d.len) c.begin.ensures, length-take c.lines-inputs.result c.arrive-turned_away.result)

pub returns : goal.returns
returns c past h =
    let s = c.args.self.now.real in
    let bytes = c.args.lines.now in
    let read = c.requires.read in
    let b1 = one s past bytes h read in
    let s1 = c.arrive-turned_away.new.self in
    let e1 = c.arrive-turned_away.ensures.after in
    let g1 = first_stage s past bytes h read s1 e1 in
    let r1 = c.choose-first.result in
    let f1 = c.choose-first.ensures b1 (stage_tied _ _ _ _ s1 b1 g1) in
    let s2 = c.transfer.new.self in
    let e2 = c.transfer.ensures in
    let s3 = c.depart.new.self in
    let b3 = three s past bytes h read in
    let e3 = c.depart.ensures.after in
    let g3 = third_stage s past bytes h read s1 s2 s3 s3 r1 r1 e1 e2 f1 e3 in
    let r2 = c.choose-second.result in
    let f2 = c.choose-second.ensures b3 (stage_tied _ _ _ _ s3 b3 g3) in
    let s4 = c.transfer-2.new.self in
    let e4 = c.transfer-2.ensures in
    let g4 = fourth_stage s past bytes h read s1 s2 s3 s4 r1 r2 e1 e2 f1 e3 e4 f2 in
    subst (λ (z : State). Serves (Shows z) 16448 s.lines past (slot_lines s.lines bytes) (lent_to s.mem) (lent_to z.mem) c.args.answer.now c.push_flags.new.self) (sym c.pass.ensures)
    (slot_served s past bytes h read s1 s2 s3 s4 r1 r2 e1 e2 f1 e3 e4 f2 c.args.answer.now c.begin.new.self c.depart.new.answer c.push_flags.new.self c.arrive-turned_away.result (search rules) c.arrive-turned_away.ensures.away c.begin.ensures c.depart.ensures.answer
    (c.push_flags.ensures ∙ ap (λ (k : ℕ). appended (flag_bytes (take k c.arrive-turned_away.result)) c.depart.new.answer) c.lines-inputs.ensures.lines))
