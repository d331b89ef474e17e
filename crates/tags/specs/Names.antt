-- Rules: Markup. The prefix that a name loses, and the raw names that declare a namespace.
use Rattle.std.specs.Prelude.{Bool, List, ℕ, ◌+◌, ltb, length, drop}
use Rattle.texts.specs.Choice.{pick, ◌or◌}
use Rattle.texts.specs.Text.{ascii, same, starts_with}
use Rattle.texts.specs.Scan.{scan, until, is}

-- the length of a prefix, up to and including the first colon (58); 0 without a colon
unfoldable pub prefix_length : List ℕ → ℕ
prefix_length name =
    let colon = scan (until (is 58)) name 0 in
    pick (ltb colon (length name)) (colon + 1) 0

-- the local name: what a raw name is without its prefix
abbrev pub local_name : List ℕ → List ℕ
local_name name = drop (prefix_length name) name

-- whether a raw name declares a namespace: `xmlns` and `xmlns:...`
unfoldable pub is_xmlns : List ℕ → Bool
is_xmlns name = same name (ascii "xmlns") or starts_with (ascii "xmlns:") name
