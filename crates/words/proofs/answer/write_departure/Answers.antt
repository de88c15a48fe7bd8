use Rattle.std.proofs.Common.{rules}
use Rattle.words.specs.Writing.{big_endian4}
use Rattle.words.proofs.Overwrites.{departure_written}
use Rattle.words.proofs.answer.write_departure.Goals as goal

pub returns-clause-bytes : goal.returns-clause-bytes
returns-clause-bytes c =
    departure_written c.args.cell.input (big_endian4 c.args.cell.slot) c.args.body.now c.copy_from_slice.new.self c.copy_from_slice-2.new.self c.args.part.now
    c.requires (search rules) (search rules) (search rules) (search rules)
