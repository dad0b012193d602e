-- What files tell: their texts, or that a count of faults rose.
use Rattle.std.specs.Prelude.{◌≡◌, ℕ, List, [], ◌∷◌, ◌++◌}
use Rattle.std.specs.Prelude.{Option, Some}
use Rattle.mp_outside.specs.Outside.{Rose}
use Rattle.requests.specs.Request.{NamedFile}
use Rattle.judging.specs.Files.{AreAccepted}

-- the files tell these texts
abbrev pub AreTold : (List ℕ → Option (List ℕ)) → List NamedFile → List (List ℕ) → Type 0
AreTold told [] [] = Unit {0}
AreTold told [] (text ∷ texts) = ⊥
AreTold told (file ∷ files) [] = ⊥
AreTold told (file ∷ files) (text ∷ texts) = (told file.name ≡ Some text) × AreTold told files texts

-- the count of one of the files rose, and every file before it has a value, where the texts of those are told
pub record HasFailed (told : List ℕ → Option (List ℕ)) (before after : List ℕ → ℕ) (files : List NamedFile) : Type 0 where
  pub earlier : List NamedFile
  pub file : NamedFile
  pub later : List NamedFile
  pub split : files ≡ earlier ++ file ∷ later
  pub rose : Rose (before file.name) (after file.name)
  pub accepted : (texts : List (List ℕ)) → AreTold told earlier texts → AreAccepted earlier [] texts

-- no count of these files rose
abbrev pub AreQuiet : (List ℕ → ℕ) → (List ℕ → ℕ) → List NamedFile → Type 0
AreQuiet before after [] = Unit {0}
AreQuiet before after (file ∷ files) = (¬ Rose (before file.name) (after file.name)) × AreQuiet before after files
