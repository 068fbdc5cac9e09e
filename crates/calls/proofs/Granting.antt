-- What a call of a view does, by whether the view was opened. Assumes nothing.
use Rattle.std.proofs.Common.{◌≡◌, ℕ, List, length, Some, Ok, Err, Result, sym, refl, ap, subst, ◌∙◌}
use Rattle.model.specs.declared.Call.{Call}
use Rattle.model.specs.declared.Card.{Card}
use Rattle.model.specs.declared.Refusal.{Refusal}
use Rattle.model.specs.Books.{Meaning}
use Rattle.model.specs.Cards.{Holds}
use Rattle.model.specs.Calls.{Viewing}
use Rattle.model.specs.Datasets.{Dataset}
use Rattle.model.specs.Refusals.{refusal_number}
use Rattle.model.specs.Runs.{refused, reply}
use Rattle.viewing.specs.Views.{Opens}
use Rattle.viewing.specs.declared.view.View.{View}
use Rattle.calls.specs.Answers.{result_reply, event}
use Rattle.calls.specs.declared.answer.Answer.{Answer}
use Rattle.calls.specs.declared.answer.Denial.{Denial}
use Rattle.calls.specs.declared.answer.Denial.TheVariants.{Refused}

pub view_refused : (m : Meaning) (file : List ℕ) (cards : List Card) (call : Call) (buffer : List ℕ) (f : Refusal) → Opens file cards (Err f) → Viewing m file cards (event call buffer (Err (Refused f)) buffer) cards
view_refused m file cards call buffer f (is, none) = record { unheld = λ un. (ap (λ x. refused (refusal_number x)) is, refl); held = λ d h. absurd (none d h); cards_same = refl }

-- by what the answer is
pub view_denied : (m : Meaning) (file : List ℕ) (cards : List Card) (call : Call) (buffer : List ℕ) (f : Refusal) (r : Result Answer Denial) (x : Denial) → r ≡ Err x → x ≡ Refused f → Opens file cards (Err f) → Viewing m file cards (event call buffer r buffer) cards
view_denied m file cards call buffer f r x is same o = subst (λ a. Viewing m file cards (event call buffer a buffer) cards) (sym (is ∙ ap Err same)) (view_refused m file cards call buffer f o)

-- the dataset held is that of the view
pub view_holds : (file : List ℕ) (cards : List Card) (v : View) (d : Dataset) → Opens file cards (Ok v) → Holds file cards d → Holds v.file.now v.drawer.now d
view_holds file cards v d (is, are, held) h = subst (λ x. Holds x v.drawer.now d) (sym is) (subst (λ x. Holds file x d) (sym are) h)

pub view_granted : (m : Meaning) (file : List ℕ) (cards : List Card) (call : Call) (buffer : List ℕ) (a : Result Answer Denial) (left : List ℕ) → ((d : Dataset) × Holds file cards d) → ((d : Dataset) → Holds file cards d → reply m (Some d) (length buffer) call ≡ Some (result_reply a)) → Viewing m file cards (event call buffer a left) cards
view_granted m file cards call buffer a left (d, h) told = record { unheld = λ un. absurd (un d h); held = told; cards_same = refl }
