-- Files that are judged in turn: a stop among the first, a stop after them, and the texts of all.
use Rattle.std.proofs.Common.{◌≡◌, ◌∙◌, ℕ, ◌≤◌, List, [], ◌∷◌, ◌++◌, Option, Some, Result, MatchResult, refl}
use Rattle.std.proofs.Common.{sym, ap, subst, inl, inr, arith, append_assoc, length, length-append}
use Rattle.std.proofs.lemmas.List.{append-nil}
use Rattle.std.proofs.lemmas.Result.{err_from_is_err_and, MatchResult-weaker}
use Rattle.std.specs.Prelude.{IsErrAnd}
use Rattle.mp_outside.specs.Outside.{Rose}
use Rattle.judging.specs.Files.{Answer, IsFirstRefusal, AreAccepted}
use Rattle.judging.specs.Told.{AreTold, HasFailed, AreQuiet}
use Rattle.judging.specs.Judged.{IsStopAt, IsStop, IsJudged, AreJudged}
use Rattle.judging.specs.Pages.{answer_of}
use Rattle.requests.specs.Request.{NamedFile}
use Rattle.judging.specs.declared.stop.Stop.{Stop}
use Rattle.judging.specs.declared.stop.Stop.TheVariants as stops

-- ---- files in a row

-- the texts of two rows of files
pub record Texts (told : List ℕ → Option (List ℕ)) (xs ys : List NamedFile) (texts : List (List ℕ)) : Type 0 where
  pub one : List (List ℕ)
  pub two : List (List ℕ)
  pub is : texts ≡ one ++ two
  pub first : AreTold told xs one
  pub second : AreTold told ys two

pub texts_of_both : (told : List ℕ → Option (List ℕ)) (xs ys : List NamedFile) (texts : List (List ℕ))
    → AreTold told (xs ++ ys) texts → Texts told xs ys texts
texts_of_both told [] ys texts are = record { one = []; two = texts; is = refl; first = tt; second = are }
texts_of_both told (x ∷ xs) ys [] are = absurd are
texts_of_both told (x ∷ xs) ys (t ∷ texts) are =
    let more = texts_of_both told xs ys texts are.1 in
    record { one = t ∷ more.one; two = more.two; is = ap (λ ts. t ∷ ts) more.is; first = (are.0, more.first); second = more.second }

-- a refusal among the first files
pub refused_before : (xs ys : List NamedFile) (earlier one two : List (List ℕ)) (answer : Answer)
    → IsFirstRefusal xs earlier one answer → IsFirstRefusal (xs ++ ys) earlier (one ++ two) answer
refused_before [] ys earlier one two answer refused = absurd refused
refused_before (x ∷ xs) ys earlier [] two answer refused = absurd refused
refused_before (x ∷ xs) ys earlier (t ∷ one) two answer (inl refused) = inl refused
refused_before (x ∷ xs) ys earlier (t ∷ one) two answer (inr (accepted, refused)) =
    inr (accepted, refused_before xs ys (earlier ++ t ∷ []) one two answer refused)

-- and one after them
pub refused_after : (told : List ℕ → Option (List ℕ)) (xs ys : List NamedFile) (earlier one two : List (List ℕ)) (answer : Answer)
    → AreTold told xs one
    → AreAccepted xs earlier one → IsFirstRefusal ys (earlier ++ one) two answer → IsFirstRefusal (xs ++ ys) earlier (one ++ two) answer
refused_after told [] ys earlier [] two answer are accepted refused =
    subst (λ e. IsFirstRefusal ys e two answer) (append-nil earlier) refused
refused_after told [] ys earlier (t ∷ one) two answer are accepted refused = absurd are
refused_after told (x ∷ xs) ys earlier [] two answer are accepted refused = absurd are
refused_after told (x ∷ xs) ys earlier (t ∷ one) two answer are accepted refused =
    inr (
      accepted.0,
      refused_after told xs ys (earlier ++ t ∷ []) one two answer are.1 accepted.1
          (subst (λ e. IsFirstRefusal ys e two answer) (sym (append_assoc earlier (t ∷ []) one)) refused),
    )

module _ (told : List ℕ → Option (List ℕ)) (before after : List ℕ → ℕ) where
  -- a fault among the first files
  pub failed_before : (xs ys : List NamedFile) → HasFailed told before after xs → HasFailed told before after (xs ++ ys)
  failed_before xs ys failed = record {
    earlier = failed.earlier;
    file = failed.file;
    later = failed.later ++ ys;
    split = ap (λ fs. fs ++ ys) failed.split ∙ append_assoc failed.earlier (failed.file ∷ failed.later) ys;
    rose = failed.rose;
    accepted = failed.accepted;
  }

  -- and at the file after them
  pub failed_after : (xs : List NamedFile) (file : NamedFile) (ys : List NamedFile)
      → ((texts : List (List ℕ)) → AreTold told xs texts → AreAccepted xs [] texts)
      → Rose (before file.name) (after file.name) → HasFailed told before after (xs ++ file ∷ ys)
  failed_after xs file ys accepted rose = record { earlier = xs; file = file; later = ys; split = refl; rose = rose; accepted = accepted }

-- a count that rose after it did not fall has risen
pub Rose-later : (before then now : ℕ) → before ≤ then → Rose then now → Rose before now
Rose-later before then now le rose = omega (arith, rose)

-- the first files have values, and those after them
pub accepted_after : (told : List ℕ → Option (List ℕ)) (xs ys : List NamedFile) (earlier one two : List (List ℕ)) → AreTold told xs one
    → AreAccepted xs earlier one → AreAccepted ys (earlier ++ one) two → AreAccepted (xs ++ ys) earlier (one ++ two)
accepted_after told [] ys earlier [] two are accepted more = subst (λ e. AreAccepted ys e two) (append-nil earlier) more
accepted_after told [] ys earlier (t ∷ one) two are accepted more = absurd are
accepted_after told (x ∷ xs) ys earlier [] two are accepted more = absurd are
accepted_after told (x ∷ xs) ys earlier (t ∷ one) two are accepted more = (
  accepted.0,
  accepted_after told xs ys (earlier ++ t ∷ []) one two are.1 accepted.1
      (subst (λ e. AreAccepted ys e two) (sym (append_assoc earlier (t ∷ []) one)) more),
)

-- ---- one file alone

pub alone_told : (told : List ℕ → Option (List ℕ)) (file : NamedFile) (P : List (List ℕ) → Type 0)
    → ((text : List ℕ) → told file.name ≡ Some text → P (text ∷ []))
    → (texts : List (List ℕ)) → AreTold told (file ∷ []) texts → P texts
alone_told told file P each [] are = absurd are
alone_told told file P each (text ∷ []) are = each text are.0
alone_told told file P each (text ∷ more ∷ texts) are = absurd are.1

pub told_same : (old new : List ℕ → Option (List ℕ)) → ((name : List ℕ) → new name ≡ old name)
    → (files : List NamedFile) (texts : List (List ℕ)) → AreTold old files texts → AreTold new files texts
told_same old new same [] [] are = tt
told_same old new same [] (t ∷ texts) are = are
told_same old new same (f ∷ fs) [] are = are
told_same old new same (f ∷ fs) (t ∷ texts) are = (same f.name ∙ are.0, told_same old new same fs texts are.1)

-- ---- stops

-- what a `?` passes on
pub passed : {T : Type 0} (r : Result T Stop) (P : T → Type 0) (Q : Stop → Type 0) (e : Stop)
    → IsErrAnd r (λ d. d ≡ e) → Q e → MatchResult r P Q
passed r P Q e is q =
    let p = err_from_is_err_and r is in
    subst (λ s. MatchResult s P Q) (sym p.1) (subst Q (sym p.2) q)

-- what is said of the texts of two rows of files
pub over_both : (told : List ℕ → Option (List ℕ)) (xs ys : List NamedFile) (P : List (List ℕ) → Type 0)
    → ((one two : List (List ℕ)) → AreTold told xs one → AreTold told ys two → P (one ++ two))
    → (texts : List (List ℕ)) → AreTold told (xs ++ ys) texts → P texts
over_both told xs ys P each texts are =
    let both = texts_of_both told xs ys texts are in
    subst P (sym both.is) (each both.one both.two both.first both.second)

-- and of one more file
pub over_last : (told : List ℕ → Option (List ℕ)) (xs : List NamedFile) (file : NamedFile) (P : List (List ℕ) → Type 0)
    → ((mine : List (List ℕ)) (text : List ℕ) → AreTold told xs mine → told file.name ≡ Some text → P (mine ++ text ∷ []))
    → (texts : List (List ℕ)) → AreTold told (xs ++ file ∷ []) texts → P texts
over_last told xs file P each =
    over_both told xs (file ∷ []) P
    (λ mine two are more. alone_told told file (λ ts. P (mine ++ ts)) (λ text is. each mine text are is) two more)

module _ (told : List ℕ → Option (List ℕ)) (before after : List ℕ → ℕ) where
  pub alone_stop : (file : NamedFile) (one : List ℕ → Answer → Type 0) (all : List (List ℕ) → Answer → Type 0)
      → ((text : List ℕ) (answer : Answer) → one text answer → all (text ∷ []) answer)
      → (e : Stop) → IsStopAt told before after file.name one e → IsStop told before after (file ∷ []) all e
  alone_stop file one all to (stops.Refused page) h =
      alone_told told file (λ texts. all texts (answer_of page)) (λ text is. to text (answer_of page) (h text is))
  alone_stop file one all to stops.ReadFault rose = failed_after told before after [] file [] (λ texts are. tt) rose
  alone_stop file one all to stops.NoMemory h = tt

  -- what is judged of one file is judged of the files
  pub alone_judged : {A : Type 0} (file : NamedFile) (takes : List ℕ → A → Type 0) (one : List ℕ → Answer → Type 0)
      (all : List (List ℕ) → A → Type 0) (refuses : List (List ℕ) → Answer → Type 0)
      → ((text : List ℕ) (x : A) → takes text x → all (text ∷ []) x)
      → ((text : List ℕ) (answer : Answer) → one text answer → refuses (text ∷ []) answer)
      → (r : Result A Stop) → IsJudged told before after file.name takes one r → AreJudged told before after (file ∷ []) all refuses r
  alone_judged file takes one all refuses to from r h =
      MatchResult-weaker r h (λ x is. alone_told told file (λ texts. all texts x) (λ text holds. to text x (is text holds)))
      (alone_stop file one refuses from)

  pub stop_before : (xs ys : List NamedFile) (e : Stop) → IsStop told before after xs (IsFirstRefusal xs []) e
      → IsStop told before after (xs ++ ys) (IsFirstRefusal (xs ++ ys) []) e
  stop_before xs ys (stops.Refused page) h =
      over_both told xs ys (λ texts. IsFirstRefusal (xs ++ ys) [] texts (answer_of page))
      (λ one two are more. refused_before xs ys [] one two (answer_of page) (h one are))
  stop_before xs ys stops.ReadFault failed = failed_before told before after xs ys failed
  stop_before xs ys stops.NoMemory h = tt

module _
    (told now : List ℕ → Option (List ℕ)) (same : (name : List ℕ) → now name ≡ told name) (before then after : List ℕ → ℕ)
    (le : (name : List ℕ) → before name ≤ then name) (xs : List NamedFile)
    (accepted : (texts : List (List ℕ)) → AreTold told xs texts → AreAccepted xs [] texts)
    (ys : List NamedFile) (few : length ys ≤ 1) where
  failed_at : (failed : HasFailed now then after ys) (earlier : List NamedFile)
      → ys ≡ earlier ++ failed.file ∷ failed.later → HasFailed told before after (xs ++ ys)
  failed_at failed [] is =
      subst (λ fs. HasFailed told before after (xs ++ fs)) (sym is)
      (failed_after told before after xs failed.file failed.later accepted
      (Rose-later (before failed.file.name) (then failed.file.name) (after failed.file.name) (le failed.file.name) failed.rose))
  failed_at failed (f ∷ earlier) is = absurd (omega (arith, few, ap length is, length-append earlier (failed.file ∷ failed.later)))

  pub stop_after : (refuses : List (List ℕ) → Answer → Type 0)
      → ((one two : List (List ℕ)) (answer : Answer) → AreTold told xs one
      → AreTold told ys two → refuses two answer → IsFirstRefusal ys one two answer)
      → (e : Stop) → IsStop now then after ys refuses e → IsStop told before after (xs ++ ys) (IsFirstRefusal (xs ++ ys) []) e
  stop_after refuses to (stops.Refused page) h =
      over_both told xs ys (λ texts. IsFirstRefusal (xs ++ ys) [] texts (answer_of page))
      (λ one two are more. refused_after told xs ys [] one two (answer_of page) are (accepted one are)
      (to one two (answer_of page) are more (h two (told_same told now same ys two more))))
  stop_after refuses to stops.ReadFault failed = failed_at failed failed.earlier failed.split
  stop_after refuses to stops.NoMemory h = tt

-- ---- counts

-- where no count rose, no file has failed
quiet_within : (before after : List ℕ → ℕ) (earlier : List NamedFile) (file : NamedFile) (later : List NamedFile)
    → AreQuiet before after (earlier ++ file ∷ later) → Rose (before file.name) (after file.name) → ⊥
quiet_within before after [] file later quiet rose = quiet.0 rose
quiet_within before after (f ∷ fs) file later quiet rose = quiet_within before after fs file later quiet.1 rose

pub quiet_has_not_failed : (told : List ℕ → Option (List ℕ)) (before after : List ℕ → ℕ) (files : List NamedFile)
    → AreQuiet before after files → HasFailed told before after files → ⊥
quiet_has_not_failed told before after files quiet failed =
    quiet_within before after failed.earlier failed.file failed.later (subst (AreQuiet before after) failed.split quiet) failed.rose
