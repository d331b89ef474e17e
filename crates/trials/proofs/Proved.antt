-- Each trial holds by computation.
use Rattle.std.proofs.Common.{◌≡◌, ◌∙◌, refl, ap, List, ℕ, ◌≤◌, false, ltb, Ok, Err}
use Rattle.std.proofs.lemmas.Bool.{le-ltb}
use Prim.Native.String.{String}
use Rattle.texts.specs.Choice.{pick}
use Rattle.refusals.specs.declared.Refusal.{Refusal}
use Rattle.refusals.specs.declared.Refusal.TheVariants.{NoRoom, OpenComment, BadNumber, ArrayInComposite}
use Rattle.refusals.specs.Figures.{Answer, number_in, offset_in, place_in, written_in, number_of, offset_of, place_of}
use Rattle.model.specs.Schema.{Schema}
use Rattle.texts.specs.Text.{ascii}
use Rattle.xmlschema.specs.Whole.{Whole, accepted, answer_of}
use Rattle.xmltoproto.specs.Convert.{converted}
use Rattle.trials.specs.Trials.{Figures, answer, Accepted, Refused, Read, Trials}
use Rattle.trials.proofs.Opened.{on_names, on_numbers, on_documents, on_schemas}

-- with any work buffers that are long enough the answer is that with the shortest ones
enough : (document : List ℕ) (records text : ℕ) → 16384 ≤ records → 65536 ≤ text → answer_of document records text ≡ answer_of document 16384 65536
unfolding answer_of
enough document records text p q =
    let a : ltb records 16384 ≡ false = le-ltb records 16384 p in
    let b : ltb text 65536 ≡ false = le-ltb text 65536 q in
    rw (a, b) refl

answered : (document : String) (records text room : ℕ) → 16384 ≤ records → 65536 ≤ text → answer document records text room ≡ answer document 16384 65536 room
answered document records text room p q = ap (λ (read : Whole). converted read room) (enough (ascii document) records text p q)

figures : {a : Answer} (b : Answer) → a ≡ b → Figures a (number_in b) (offset_in b) (place_in b) (written_in b)
figures b e = record { the_number = ap number_in e; the_offset = ap offset_in e; the_place = ap place_in e; the_n = ap written_in e }

accepts : (document : String) (n : ℕ) → ((room : ℕ) → answer document 16384 65536 room ≡ pick (ltb room n) (Err NoRoom) (Ok n)) → Accepted document n
accepts document n e =
    record {
      is = λ records text room p q fits.
          let c : ltb room n ≡ false = le-ltb room n fits in
          figures (Ok n) (answered document records text room p q ∙ e room ∙ rw c refl);
    }

refuses : (document : String) (r : Refusal) → ((room : ℕ) → answer document 16384 65536 room ≡ Err r) → Refused document (number_of r) (offset_of r) (place_of r)
refuses document r e = record { is = λ records text room p q. figures (Err r) (answered document records text room p q ∙ e room) }

reads : (document : String) (schema : Schema) → answer_of (ascii document) 16384 65536 ≡ accepted schema → Read document schema
reads document schema e = record { is = λ records text p q. enough (ascii document) records text p q ∙ e }

pub proved : Trials
unfolding on_names on_numbers on_documents on_schemas
proved =
    record {
      snake_entry = refl;
      snake_order = refl;
      snake_leg = refl;
      screaming_entry = refl;
      singular_entries = refl;
      singular_s = refl;
      number_absent = refl;
      number_plus = refl;
      number_read = reads _ _ refl;
      number_large = refuses _ (BadNumber 15) (λ room. refl);
      close_of_nothing = accepts _ 108 (λ room. refl);
      open_comment = refuses _ (OpenComment 0) (λ room. refl);
      array_unused = accepts _ 108 (λ room. refl);
      array_in_header = accepts _ 108 (λ room. refl);
      array_in_composite = refuses _ (ArrayInComposite 0) (λ room. refl);
    }
