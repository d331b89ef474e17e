-- A trial, computed from the definitions.
use mathlib.Core.Path.{◌≡◌, refl}
use Rattle.texts.specs.Text.{ascii, starts_with}
use Rattle.entities.specs.Entities.{entity, front, decoded_past, decoded}

-- the five entities, once; every other '&' stays
pub entities : decoded (ascii "&lt;&gt;&quot;&apos;&amp; &amp;lt; & &x; &amp") ≡ ascii "<>\"'& &lt; & &x; &amp"
unfolding decoded_past front entity starts_with
entities = refl
