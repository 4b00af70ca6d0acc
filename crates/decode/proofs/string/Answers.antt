-- `decode::string` meets its contract.
use Rattle.decode.specs.Fields.{is-string}
use Rattle.decode.proofs.string.Goals as goal

pub returns : goal.returns
returns c = search is-string
