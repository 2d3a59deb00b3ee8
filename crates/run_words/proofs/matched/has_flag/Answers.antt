use Rattle.std.proofs.Common.{◌≡◌, ◌∙◌, Bool, true, false, Option, Some, None, refl, sym, ap, codes}
use Rattle.std.specs.Prelude.{Ok, Err, Result, unwrap_or}
use Rattle.std.specs.Option.{option_map_or}
use Rattle.std.specs.Str.{bytes_eq}
use Rattle.std.specs.Str.Parse.{ParsesBool}
use Rattle.std.proofs.lemmas.Slice.Eq.{bytes_eq-Decides}
use Rattle.clap.specs.Matches.{ReadsOne}
use Rattle.clap.specs.Words.{Text, found_of}
use Rattle.clap.proofs.WalkLemmas.{one_text-rows}
use Rattle.run_words.proofs.matched.has_flag.Goals as goal

module _ {E : Type 0} (G : Text → Result Bool E → Type 0) where
  text_read : (t : Text) (r : Option Bool) → ((x : Result Bool E) → G t x → ParsesBool t x)
      → ReadsOne G t r → unwrap_or r false ≡ bytes_eq t (codes "true")
  text_read t (Some true) only h = rw (only (Ok true) h) refl
  text_read t (Some false) only h = rw (only (Ok false) h) refl
  text_read t None only h = go (bytes_eq t (codes "true")) refl
    where
      go : (b : Bool) → bytes_eq t (codes "true") ≡ b → false ≡ bytes_eq t (codes "true")
      go true e = absurd ((only (Err h.0) h.1).0 ((bytes_eq-Decides t (codes "true")).0 e))
      go false e = sym e

  flag_read : (o : Option Text) (r : Option Bool) → ((t : Text) (x : Result Bool E) → G t x → ParsesBool t x)
      → (o ≡ None → r ≡ None) → ((t : Text) → o ≡ Some t → ReadsOne G t r)
      → unwrap_or r false ≡ option_map_or (λ t. bytes_eq t (codes "true")) o false
  flag_read None r only none value = rw (none refl) refl
  flag_read (Some t) r only none value = text_read t r (only t) (value t refl)

pub returns : goal.returns
returns c =
    let read = flag_read _ _ c.get_one.result (λ t x g. g) c.get_one.ensures.none c.get_one.ensures.value in
    c.unwrap_or.ensures ∙ (read ∙ ap (λ (o : Option Text). option_map_or (λ t. bytes_eq t (codes "true")) o false)
    (one_text-rows (found_of c.args.matches.now) c.args.id.now))
