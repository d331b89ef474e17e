use Rattle.printing.proofs.Writing.{◌▹◌}
use Rattle.xmltoproto.specs.Source.{message_text}
use Rattle.xmltoproto.proofs.messages.MessageTextItemText.write.Goals as goal

pub returns : goal.returns
unfolding message_text
returns c = rw (← c.name.ensures, ← c.number.ensures) (c.text.ensures ▹ c.text-2.ensures ▹ c.text-3.ensures ▹ c.decimal.ensures ▹ c.text-4.ensures ▹ c.write_under.ensures ▹ c.write_under-2.ensures ▹ c.text-5.ensures)
