use Rattle.crossbox.proofs.Slack.{arrive_slack}
use Rattle.crossbox.proofs.arriving_takes_slack.Goals as goal

pub returns : goal.returns
returns c = arrive_slack
