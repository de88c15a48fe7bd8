use Rattle.crossbox.proofs.Slack.{depart_slack}
use Rattle.crossbox.proofs.departing_takes_slack.Goals as goal

pub returns : goal.returns
returns c = depart_slack
