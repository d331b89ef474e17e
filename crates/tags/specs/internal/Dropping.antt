-- Attributes that declare a namespace are dropped: a tag is the same without them.
use Rattle.std.specs.Prelude.{◌≡◌, List, ℕ, ◌≤◌, ◌<◌, length, Result, Ok, Err}
use Rattle.refusals.specs.declared.Refusal.{Refusal}
use Rattle.tags.specs.declared.part.TagPart.{TagPart}
use Rattle.tags.specs.declared.part.TagPart.TheVariants.{Attribute as Part, TagEnd}
use Rattle.tags.specs.Attributes.{tag_at}

-- where an attribute ends; `at` for any other part
abbrev pub next_of : Result TagPart Refusal → ℕ → ℕ
next_of (Ok (Part a)) at = a.next
next_of (Ok (TagEnd ending)) at = at
next_of (Err refusal) at = at

-- a tag is the same from r on as from `at` on, and r is `at` or further on in the document
pub record Unchanged (doc : List ℕ) (at r : ℕ) : Type 0 where
  pub forward : at ≤ r
  pub within : at < r → r ≤ length doc
  pub same : (place : ℕ) → tag_at doc r place ≡ tag_at doc at place
