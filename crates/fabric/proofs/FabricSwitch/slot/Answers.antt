use Rattle.std.proofs.Common.{ℕ, false, List, Result, sym, ap, ◌∙◌, subst, arith}
use Rattle.words.specs.declared.fault.Fault.{Fault}
use Rattle.words.specs.Lines.{Line, judge, verdict}
use Rattle.fabric.specs.Real.{Runs}
use Rattle.fabric.proofs.Turns.{serves}
use Rattle.fabric.proofs.FabricSwitch.slot.Goals as goal

pub serve_slot-requires : goal.serve_slot-requires
serve_slot-requires c =
    let n = c.requires.0 in
    let past = c.requires.1 in
    let h = c.requires.3 in
    record {
      runs = (past, subst (λ (m : ℕ). Runs c.args.self.now.real m past) (sym h.lines) h);
      early = omega (arith, h.slots, c.requires.4);
      read = sym (ap (λ (m : ℕ). verdict (judge m 64 false c.args.lines.now)) h.lines ∙ ap (λ (x : Result (List Line) Fault). verdict x) c.requires.5);
    }

pub returns : goal.returns
returns c n past ls h e =
    serves c.args.self.now.real c.serve_slot.new.self.real n past ls c.args.lines.now c.args.answer.now c.serve_slot.new.answer h e
    c.serve_slot.ensures
