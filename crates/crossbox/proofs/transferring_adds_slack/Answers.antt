use Rattle.crossbox.proofs.Slack.{transfer_slack}
use Rattle.crossbox.proofs.transferring_adds_slack.Goals as goal

pub returns : goal.returns
returns c = transfer_slack
