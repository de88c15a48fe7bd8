use Rattle.std.proofs.Common.{ℕ, false, leb, List, refl, subst}
use Rattle.std.proofs.lemmas.List.{take_rest}
use Rattle.words.specs.Lines.{judge}
use Rattle.crowd.specs.declared.Turn.TheVariants as turn
use Rattle.crowd.specs.State.{Slotted, Chosen, First, Second, Refused}
use Rattle.crowd.proofs.Turns.{turn_of_lem, settled_turn, slotted_turn, chosen-first_turn, chosen_second_turn, malformed_turn}
use Rattle.crowd.proofs.Crowd.take.Goals as goal

pub returns-in-Settings : goal.returns-in-Settings
returns-in-Settings c told t st h =
    let s = c.args.self.now in
    settled_turn s c.take_settings.new.self st c.args.word.now c.args.answer.now told h
    (turn_of_lem s _ c.of.result c.args.word.now turn.Settings c.self.view_is c.in-Settings.ensures c.of.ensures) (c.take_settings.ensures told t)

pub returns-in-Slot : goal.returns-in-Slot
returns-in-Slot c told t st h =
    let s = c.args.self.now in
    let after = c.take_slot.new.self in
    slotted_turn s after st c.args.word.now c.args.answer.now told h (turn_of_lem s _ c.of.result c.args.word.now turn.Slot c.self.view_is c.in-Slot.ensures c.of.ensures)
    (subst (λ (bytes : List ℕ). Slotted (judge s.real.lines 64 (leb 4294967296 s.real.slots) bytes) s after c.args.answer.now told) (take_rest c.args.word.now 1) (c.take_slot.ensures told t))

pub returns-in-First : goal.returns-in-First
returns-in-First c told t st h =
    let s = c.args.self.now in
    let after = c.take_first.new.self in
    let out = c.args.answer.now in
    chosen-first_turn s after st c.args.word.now out told h (turn_of_lem s _ c.of.result c.args.word.now turn.First c.self.view_is c.in-First.ensures c.of.ensures)
    (subst (λ (bytes : List ℕ). Chosen (λ ls. First ls s after out told) (λ fault. Refused fault s after out told) s (judge s.real.lines 0 false bytes)) (take_rest c.args.word.now 1) (c.take_first.ensures told t))

pub returns-in-Second : goal.returns-in-Second
returns-in-Second c told t st h =
    let s = c.args.self.now in
    let after = c.take_second.new.self in
    let out = c.args.answer.now in
    chosen_second_turn s after st c.args.word.now out told h (turn_of_lem s _ c.of.result c.args.word.now turn.Second c.self.view_is c.in-Second.ensures c.of.ensures)
    (subst (λ (bytes : List ℕ). Chosen (λ ls. Second ls s after out told) (λ fault. Refused fault s after out told) s (judge s.real.lines 0 false bytes)) (take_rest c.args.word.now 1) (c.take_second.ensures told t))

pub returns-in-Refusal : goal.returns-in-Refusal
returns-in-Refusal c told t st h =
    let s = c.args.self.now in
    malformed_turn s s st c.args.word.now c.args.answer.now told h (turn_of_lem s _ c.of.result c.args.word.now turn.Refusal c.self.view_is c.in-Refusal.ensures c.of.ensures) refl t
