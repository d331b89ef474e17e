-- Rules: Printing. What a type name is declared as among enums, composites and types, and its
-- number in the index.
use Rattle.std.specs.Prelude.{Bool, List, ℕ, ◌+◌, Option, Some, None, eqb}
use Rattle.texts.specs.Choice.{◌or◌}
use Rattle.model.specs.Schema.{Schema, last_named, a_type, a_composite, an_enum}
use Rattle.index.specs.declared.declaration.Declaration.{Declaration}
use Rattle.index.specs.declared.declaration.Declaration.TheVariants.{Named, Typed}

-- the kinds among which a type name is looked up: types, composites and enums
unfoldable pub declares : ℕ → Bool
declares kind = eqb kind a_type or eqb kind a_composite or eqb kind an_enum

-- the declaration, by the last enum, composite and type of the name
abbrev pub declared_by : Option ℕ → Option ℕ → Option ℕ → Option Declaration
declared_by (Some i) c t = Some Named
declared_by None (Some i) t = Some Named
declared_by None None (Some i) = Some (Typed i)
declared_by None None None = None

-- what a name is declared as
unfoldable pub declaration_of : Schema → List ℕ → Option Declaration
declaration_of s name =
    declared_by
    (last_named an_enum name s)
    (last_named a_composite name s)
    (last_named a_type name s)

-- the number that the index holds for it: 1 for an enum or composite, otherwise 2 more than the
-- position of the type, 0 for none
abbrev pub declaration_code : Option Declaration → ℕ
declaration_code None = 0
declaration_code (Some Named) = 1
declaration_code (Some (Typed i)) = i + 2
