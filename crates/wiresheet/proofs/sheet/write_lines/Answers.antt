use Rattle.printing.proofs.Writing.{◌▹◌}
use Rattle.xmltoproto.proofs.Sources.{composites-printed}
use Rattle.wiresheet.specs.Sheet.{sheet, sheet_lines}
use Rattle.wiresheet.specs.internal.SheetLines.{schema_line}
use Rattle.wiresheet.proofs.Sheets.{each-mapped}
use Rattle.wiresheet.proofs.sheet.write_lines.Goals as goal

pub returns : goal.returns
unfolding sheet_lines sheet schema_line
returns c = rw (each-mapped, each-mapped, each-mapped) (c.write_schema_line.ensures ▹ c.write_all.ensures ▹ composites-printed _ _ c.write_all-2.ensures ▹ c.write_all-3.ensures)
