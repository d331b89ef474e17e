-- Laws of what a type name stands for, by what it is declared as.
use Rattle.std.proofs.Common.{◌≡◌, refl, sym, ap, ◌∙◌, Bool, true, false, List, [], Option, Some, None, is_some, ℕ}
use Rattle.texts.specs.Choice.{pick, ◌or◌}
use Rattle.texts.specs.Text.{ascii, same}
use Rattle.texts.specs.Lists.{among}
use Rattle.texts.proofs.Comparing.{same-equal}
use Rattle.model.specs.Schema.{Schema, item_at, last_named, a_type, a_composite, an_enum}
use Rattle.index.specs.Declarations.{declared_by, declaration_of}
use Rattle.index.specs.declared.declaration.Declaration.{Declaration}
use Rattle.index.specs.declared.declaration.Declaration.TheVariants.{Named, Typed}
use Rattle.xmltoproto.specs.Types.{built_ins, built_in, is_char, is_raw, as_named, as_primitive, proto_of, Meaning, declared, typed, unknown, form, form_of, is_declared, type_or, meaning}

-- ---- a type name

-- what is not among some words is none of them
not_same : (w v : List ℕ) (l : List (List ℕ)) → among w l ≡ false → among v l ≡ true → same w v ≡ false
not_same w v l f t = go (same w v) refl
  where
    go : (b : Bool) → same w v ≡ b → b ≡ false
    go true e = sym t ∙ ap (λ (x : List ℕ). among x l) (sym (same-equal w v e)) ∙ f
    go false e = refl

-- the shape of a name that is no built-in is the name as it stands
pub undeclared-shape : (w : List ℕ) → proto_of (form w 0 []) ≡ pick (among w built_ins) (proto_of (built_in w)) (as_named w)
unfolding built_in proto_of is_char is_raw as_primitive among same
undeclared-shape w = go (among w built_ins) refl
  where
    other : (v : List ℕ) → among w built_ins ≡ false → among v built_ins ≡ true → same w v ≡ false
    other v = not_same w v built_ins

    go : (b : Bool) → among w built_ins ≡ b → proto_of (form w 0 []) ≡ pick b (proto_of (built_in w)) (as_named w)
    go true f = refl
    go false f = rw (other (ascii "char") f refl, other (ascii "int8") f refl, other (ascii "int16") f refl, other (ascii "uint8") f refl, other (ascii "uint16") f refl)

-- by what it is declared as
abbrev pub declared_so : Schema → List ℕ → Option Declaration → Meaning
declared_so s name (Some Named) = declared
declared_so s name (Some (Typed i)) = typed (form_of (item_at s i))
declared_so s name None = type_or s name None

pub declared-means : (s : Schema) (name : List ℕ) → declared_so s name (declaration_of s name) ≡ meaning s name
unfolding meaning is_declared declaration_of
declared-means s name = go (last_named an_enum name s) (last_named a_composite name s) (last_named a_type name s)
  where
    go : (e c t : Option ℕ) → declared_so s name (declared_by e c t) ≡ pick (is_some e or is_some c) declared (type_or s name t)
    go (Some i) c t = refl
    go None (Some i) t = refl
    go None None (Some i) = refl
    go None None None = refl

module _ (s : Schema) (name : List ℕ) {d : Option Declaration} (ed : d ≡ declaration_of s name) where
  means : {c : Option Declaration} → d ≡ c → meaning s name ≡ declared_so s name c
  means f = sym (ap (declared_so s name) (sym f ∙ ed) ∙ declared-means s name)

  pub means-named : d ≡ Some Named → meaning s name ≡ declared
  means-named f = means f

  pub means-typed : {i : ℕ} → d ≡ Some (Typed i) → meaning s name ≡ typed (form_of (item_at s i))
  means-typed f = means f

  pub means-nothing : d ≡ None → meaning s name ≡ pick (among name built_ins) (typed (built_in name)) unknown
  means-nothing f = means f

pub ruleset meanings = (means-named, means-typed, means-nothing)
