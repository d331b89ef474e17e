-- Two plain schemas have the same source, byte for byte, exactly when their wire sheets are equal.
use mathlib.Core.Path.{◌≡◌, ap, sym, ◌∙◌}
use Rattle.model.specs.Schema.{Schema}
use Rattle.xmltoproto.specs.Source.{source}
use Rattle.wiresheet.specs.Plain.{Plain}
use Rattle.wiresheet.specs.Sheet.{sheet}
use Rattle.wiresheet.proofs.Rendering.{render, renders}
use Rattle.wiresheet.proofs.Rendered.{unique}
use Rattle.wiresheet.proofs.PlainSheets.{sheet-ok}

-- the source of any schema is a function of its sheet
pub sheet-decides : (s t : Schema) → sheet s ≡ sheet t → source s ≡ source t
sheet-decides s t e = renders s ∙ ap render e ∙ sym (renders t)

-- where the schema is plain, the sheet is a function of the source
pub source-decides : (s t : Schema) → Plain s → Plain t → source s ≡ source t → sheet s ≡ sheet t
source-decides s t p q e = unique (sheet s) (sheet t) (sheet-ok s p) (sheet-ok t q) (sym (renders s) ∙ e ∙ renders t)
