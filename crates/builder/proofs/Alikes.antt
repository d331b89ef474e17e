-- Laws of texts that agree where they are in use: the builder, and what is sound, do not change.
use Rattle.std.proofs.Common.{◌≡◌, refl, sym, ap, ◌∙◌, List, [], ◌∷◌, ℕ, ◌+◌, ◌-◌, ◌≤◌, arith, length, take, drop, drop-drop, take-take, T}
use lib.Seq.{sets}
use Rattle.texts.specs.Text.{piece}
use Rattle.texts.proofs.Stores.{take-sets, drop-sets, piece-below}
use Rattle.tags.specs.Attributes.{attribute_at, raw_length, raw_lengths}
use Rattle.tags.proofs.Ranges.{different, values-lie}
use Rattle.builder.specs.internal.Layout.{builder_in, texted, Alike, Intact, Tagged}
use Rattle.builder.specs.declared.state.State.{State}
use Rattle.builder.specs.declared.work.Work.{Work}

pub alike_self : {low high : ℕ} {a : List ℕ} → Alike low high a a
alike_self = record { below = refl; above = refl }

pub alike-sets : (text vs : List ℕ) (low high i : ℕ) → low ≤ i → i + length vs ≤ high → Alike low high text (sets text i vs)
alike-sets text vs low high i h k = record { below = take-sets vs text low i h; above = drop-sets vs text high i k }

pub alike-wider : (text t : List ℕ) (low a high : ℕ) → a ≤ high → Alike low a text t → Alike low high text t
alike-wider text t low a high h k =
    let z : a + (high - a) ≡ high = omega arith in
    let f : (l : List ℕ) → drop high l ≡ drop (high - a) (drop a l) = λ l. ap (λ j. drop j l) (sym z) ∙ sym (drop-drop (high - a) a l) in
    record { below = k.below; above = f t ∙ ap (drop (high - a)) k.above ∙ sym (f text) }

pub alike-lower : (text t : List ℕ) (a low high : ℕ) → a ≤ low → Alike low high text t → Alike a high text t
alike-lower text t a low high h k =
    record { below = sym (take-take a low t h) ∙ ap (take a) k.below ∙ take-take a low text h; above = k.above }

pub alike-trans : {low high : ℕ} {a b c : List ℕ} → Alike low high a b → Alike low high b c → Alike low high a c
alike-trans p q = record { below = q.below ∙ p.below; above = q.above ∙ p.above }

-- the same buffers with a text that is alike
module _ (w : Work) (s : State) (t : List ℕ) (k : Intact w s) (a : Alike s.usage.collected_to s.usage.taken_from w.text.now t) where
  pub builder-alike : builder_in (texted w t) s ≡ builder_in w s
  builder-alike =
      let c : piece t s.usage.collected_from (s.usage.collected_to - s.usage.collected_from) ≡ piece w.text.now s.usage.collected_from (s.usage.collected_to - s.usage.collected_from) =
      piece-below w.text.now t s.usage.collected_to s.usage.collected_from (s.usage.collected_to - s.usage.collected_from) (omega (arith, k.within.begun)) a.below in
      rw (c, k.stable t a)

  pub sound-alike : length t ≡ length w.text.now → Intact (texted w t) s
  sound-alike l =
      record { within = k.within; lent = record { records = k.lent.records; bytes = omega (arith, k.lent.bytes) }; stable = λ u b. k.stable u (alike-trans a b) ∙ sym (k.stable t a) }

-- a value of the tag has room where the tag has
pub tag-room : (doc : List ℕ) (attributes next : ℕ) → Tagged doc attributes next → (keys : List (List ℕ)) → T (different keys) → raw_lengths doc attributes keys ≤ next - attributes
tag-room doc attributes next g keys t = omega (arith, values-lie doc attributes g.place g.is keys t)

pub tag_one : (doc : List ℕ) (attributes next : ℕ) → Tagged doc attributes next → (key : List ℕ) → raw_length (attribute_at doc attributes key) ≤ next - attributes
tag_one doc attributes next g key = omega (arith, tag-room doc attributes next g (key ∷ []) tt)
