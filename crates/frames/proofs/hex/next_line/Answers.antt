use Rattle.std.proofs.Common.{◌≡◌, ◌<◌, length, MatchOption, rules, arith}
use Rattle.std.specs.List.{AllWithin, HoldsAt}
use Rattle.std.proofs.lemmas.List.{take_rest}
use borrow.Author.Tests.{tests}
use Rattle.std.proofs.lemmas.Iterator.{IsFirst-from_position, YieldsList-from_slice}
use Rattle.frames.specs.Hex.{line_feed}
use Rattle.frames.proofs.Lines.{line_at}
use Rattle.frames.proofs.hex.next_line.Goals as goal
use Rattle.frames.proofs.hex.next_line.Goals.{After-position}

-- the first line feed, as the search found it
first :
    (c : After-position) →
    MatchOption c.position.result (AllWithin (λ x. x ≡ line_feed → ⊥) c.args.bytes.now 0 (length c.args.bytes.now)) (λ i. (i < length c.args.bytes.now) × HoldsAt (λ x. x ≡ line_feed) c.args.bytes.now i × AllWithin (λ x. x ≡ line_feed → ⊥) c.args.bytes.now 0 i)
first c =
    IsFirst-from_position _ _ c.position.result (λ x. x ≡ line_feed) (λ x. x ≡ line_feed → ⊥) c.position.ensures.ran
    (YieldsList-from_slice c.args.bytes.now cc) (λ x q k. search (rules, tests)) (λ x q k. search (rules, tests))

pub returns-in_err-end-clause-value : goal.returns-in_err-end-clause-value
returns-in_err-end-clause-value c =
    let f = line_at _ _ (first (goal.at.returns-in_err-end-clause-value c).After-position) in grind arith

pub returns-clause-value : goal.returns-clause-value
returns-clause-value c = let f = line_at _ _ (first (goal.at.returns-clause-value c).After-position) in grind (arith, take_rest)
