use Rattle.std.proofs.Common.{◌≡◌, suc, get_or, replicate, sym, refl, ap, ◌∙◌, subst, add-one, arith, length-set}
use Rattle.crossbox.specs.declared.Arrival.TheVariants.{Nothing, For}
use Rattle.crossbox.specs.Matching.{after_asks}
use Rattle.crossbox.proofs.Finding.{good_after}
use Rattle.matching.specs.Asking.{prefers_in}
use Rattle.matching.specs.Loop.{State, Tied, turned}
use Rattle.matching.proofs.Ask.{asker}
use Rattle.matching.proofs.Turn.{asked_turn}
use Rattle.matching.proofs.Ends.{begins, asks_few, choice_small, cond_small, ends}
use Rattle.matching.proofs.find.Goals as goal

pub asks-init : goal.asks-init
asks-init c =
    (refl, omega arith, λ b ties. begins c.args.n b c.args.firsts.now ties (replicate 32 Nothing) refl c.askers-asking.result c.askers-asking.ensures)

pub asks-preserved : goal.asks-preserved
unfolding after_asks
asks-preserved c = (
  simp length-set c.asks.invariant.0,
  simp length-set c.asks.invariant.1,
  λ b ties.
      (let n = c.args.n in
      let k = c.asks.asks in
      let st : State = record { choice = c.asks.choice; askable = c.asks.askable; asking = c.asks.asking } in
      let tied = c.asks.invariant.2 b ties in
      let o = c.lowest-o.result in
      let i = c.earliest-i.result in
      let keeps = c.answer-reply.result.keeps in
      let refuses = c.answer-reply.result.refuses in
      let row = c.without.result in
      let now = c.askers_after-asking.result in
      let good = good_after n b ties.placed ties.order k in
      let next = asked_turn n c.requires.0 b c.args.firsts.now ties (after_asks k n b) good st tied.0 c.asks.invariant.0 c.asks.invariant.1 o i keeps refuses row now (record {
        low = c.lowest-o.ensures;
        best = c.earliest-i.ensures;
        one = c.answer-reply.ensures.keeps;
        other = c.answer-reply.ensures.refuses;
        cleared = c.without.ensures.bits;
        again = c.askers_after-asking.ensures;
      }) in
      subst (λ z. Tied n b (after_asks z n b) (turned st o i keeps row now) × ((after_asks z n b).asks ≡ z)) (sym (add-one k)) (next.0, next.1 ∙ ap suc tied.1)),
)

pub earliest-i-requires : goal.earliest-i-requires
earliest-i-requires c =
    let b = c.requires.1.0 in
    let ties = c.requires.1.1 in
    let st : State = record { choice = c.asks.choice; askable = c.asks.askable; asking = c.asks.asking } in
    let low = c.lowest-o.ensures in
    (low.small, (asker c.args.n b c.args.firsts.now ties (after_asks c.asks.asks c.args.n b) st (c.asks.invariant.2 b ties).0 c.lowest-o.result low.here).1)

pub answer-reply-requires : goal.answer-reply-requires
answer-reply-requires c =
    let b = c.requires.1.0 in
    let ties = c.requires.1.1 in
    let st : State = record { choice = c.asks.choice; askable = c.asks.askable; asking = c.asks.asking } in
    let small = choice_small c.args.n c.requires.0 b c.args.firsts.now ties (after_asks c.asks.asks c.args.n b) st (c.asks.invariant.2 b ties).0 c.earliest-i.result in
    (c.earliest-i.ensures.small, (c.lowest-o.ensures.small, small))

pub askers_after-asking-requires : goal.askers_after-asking-requires
askers_after-asking-requires c =
    let b = c.requires.1.0 in
    let ties = c.requires.1.1 in
    let st : State = record { choice = c.asks.choice; askable = c.asks.askable; asking = c.asks.asking } in
    let small = choice_small c.args.n c.requires.0 b c.args.firsts.now ties (after_asks c.asks.asks c.args.n b) st (c.asks.invariant.2 b ties).0 c.earliest-i.result in
    let o = c.lowest-o.result in
    let before = get_or c.asks.choice c.earliest-i.result Nothing in
    let low = c.lowest-o.ensures in
    (low.small, (low.here, cond_small c.answer-reply.result.refuses before (For o) (prefers_in c.args.firsts.now.places c.earliest-i.result o before) c.answer-reply.ensures.refuses small low.small))

pub overflow_add-asks : goal.overflow_add-asks
overflow_add-asks c =
    let b = c.requires.1.0 in
    let ties = c.requires.1.1 in
    omega (arith, (c.asks.invariant.2 b ties).1, asks_few c.args.n c.requires.0 b c.args.firsts.now ties c.asks.asks)

pub returns : goal.returns
returns c b ties =
    let v = c.asks.invariant.2 b ties in
    let st : State = record { choice = c.asks.choice; askable = c.asks.askable; asking = c.asks.asking } in
    ends c.args.n b c.args.firsts.now ties c.asks.asks (record { choice = c.asks.choice; asks = c.asks.asks }) st v.0 refl (omega arith) v.1
