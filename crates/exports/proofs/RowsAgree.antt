-- Demand 1, once for every call. If a call's list of rows (Rows of crates/answers) and the rows of the page of demands agree one by one (`AllAgree`), the first row that is
-- given has the same number and place in both, by induction on the rows. So an answer that the first of the call's rows decides is by the table, whatever it counts
-- (`by_table_met`), and a call that returns the struct of five numbers and answers by its rows (`GoesByRows`) meets demand 1 (`demand_1_met`).
use Prim.Native.Nat.{ℕ, ◌<◌}
use mathlib.Core.Path.{◌≡◌, refl, sym, ap, subst, ◌∙◌}
use mathlib.Core.Logic.Iff
use mathlib.Core.Logic.{◌↔◌, ◌⊎◌, inl, inr, ⊎_elim}
use mathlib.Core.List.{List, [], ◌∷◌, ◌++◌}
use Rattle.std.specs.Prelude.{Option, None, Some}
use native.Mathlib.Omega.{arith}
use Rattle.answers.specs.declared.refusals.Refusal.{Refusal}
use Rattle.answers.specs.Refusals.{number_of, place_of}
use Rattle.answers.specs.Paper.{Paper, answer_paper}
use Rattle.answers.specs.Rows.{first_given, answer_by, area_by}
use Rattle.answers.proofs.OneAnswer.{number_in}
use Rattle.answers.proofs.FirstRow.{none_some}
use Rattle.answers.proofs.RowsExactly.{IsRow}
use Rattle.answers.proofs.AnswerByRows.{row_place_iff, accepted_number_iff, accepted_counts, refused_counts, refused_area}
use Rattle.outlines.specs.Report.{ReportCounts, no_report_counts}
use Rattle.exports.specs.declared.answering.Answer.{Answer as AnswerStruct}
use Rattle.exports.specs.Exported.{paper_of}
use Rattle.exports.specs.Demands.{Row, row_of, FirstRow, NoRow, ByTable, Demand1}

-- A refusal is given, and has this number and place.
pub record IsGivenAt (o : Option Refusal) (number place : ℕ) : Type 0 where
  pub refusal : Refusal
  pub given : o ≡ Some refusal
  pub number_is : number ≡ number_of refusal
  pub place_is : place ≡ place_of refusal

-- where no refusal is given, none is given with a number
not_given : {o : Option Refusal} {number place : ℕ} → o ≡ None → IsGivenAt o number place → ⊥
not_given none_is g = none_some (sym none_is ∙ g.given)

-- A row of a call agrees with a row of the page of demands: the page's row holds of exactly the number and place of the refusal that the call's row gives.
abbrev pub Agrees : Option Refusal → Row → Type 0
Agrees o r = (number place : ℕ) → r number place ↔ IsGivenAt o number place

-- Two lists of rows agree one by one. A row has to agree only where no row before it is given.
abbrev pub AllAgree : List (Option Refusal) → List Row → Type 0
AllAgree [] [] = Unit {0}
AllAgree [] (r ∷ rs) = ⊥
AllAgree (o ∷ os) [] = ⊥
AllAgree (o ∷ os) (r ∷ rs) = Agrees o r × (o ≡ None → AllAgree os rs)

-- Two lists that agree, followed by two that agree where no row of the first two is given, agree as a whole.
pub agree_append : (os : List (Option Refusal)) (rs : List Row) (os' : List (Option Refusal)) (rs' : List Row)
    → AllAgree os rs → (first_given os ≡ None → AllAgree os' rs') → AllAgree (os ++ os') (rs ++ rs')
unfolding first_given
agree_append [] [] os' rs' a b = b refl
agree_append [] (r ∷ rs) os' rs' a b = absurd a
agree_append (o ∷ os) [] os' rs' a b = absurd a
agree_append (None ∷ os) (r ∷ rs) os' rs' a b = (a.0, λ e. agree_append os rs os' rs' (a.1 e) b)
agree_append (Some q ∷ os) (r ∷ rs) os' rs' a b = (a.0, λ e. absurd (none_some (sym e)))

-- A row with place 0 that gives its refusal exactly when a condition holds agrees with the row of the page of demands with that number and condition.
pub row_agrees : {o : Option Refusal} {q : Refusal} {Yes No : Type 0} → IsRow o q Yes No → place_of q ≡ 0 → Agrees o (row_of (number_of q) Yes)
row_agrees {q = q} is no_place number place = (
  λ h. record { refusal = q; given = is.yes.1 h.2; number_is = h.0; place_is = h.1 ∙ sym no_place },
  λ g. let same : g.refusal ≡ q = is.only g.refusal g.given in
      (g.number_is ∙ ap number_of same, g.place_is ∙ ap place_of same ∙ no_place, is.yes.0 (g.given ∙ ap Some same)),
)

-- A row that gives one of two refusals, each at any place, agrees with the row of the page of demands with their two conditions.
pub faults_agree : {o : Option Refusal} {A B : ℕ → Type 0} (one other : ℕ → Refusal) {a b : ℕ}
    → ((p : ℕ) → (number_of (one p) ≡ a) × (place_of (one p) ≡ p)) → ((p : ℕ) → (number_of (other p) ≡ b) × (place_of (other p) ≡ p))
    → ((p : ℕ) → (o ≡ Some (one p)) ↔ A p) → ((p : ℕ) → (o ≡ Some (other p)) ↔ B p)
    → ((q : Refusal) → o ≡ Some q → ((p : ℕ) × (q ≡ one p)) ⊎ ((p : ℕ) × (q ≡ other p)))
    → Agrees o (λ number place. ((number ≡ a) × A place) ⊎ ((number ≡ b) × B place))
faults_agree {A = A} {B = B} one other of_one of_other one_iff other_iff only number place = (
  ⊎_elim
      (λ h. record { refusal = one place; given = (one_iff place).1 h.1; number_is = h.0 ∙ sym (of_one place).0; place_is = sym (of_one place).1 })
      (λ h. record { refusal = other place; given = (other_iff place).1 h.1; number_is = h.0 ∙ sym (of_other place).0; place_is = sym (of_other place).1 }),
  λ g. ⊎_elim
      (λ w. let at : w.0 ≡ place = sym (g.place_is ∙ ap place_of w.1 ∙ (of_one w.0).1) in
      inl (g.number_is ∙ ap number_of w.1 ∙ (of_one w.0).0, subst A at ((one_iff w.0).0 (g.given ∙ ap Some w.1))))
      (λ w. let at : w.0 ≡ place = sym (g.place_is ∙ ap place_of w.1 ∙ (of_other w.0).1) in
      inr (g.number_is ∙ ap number_of w.1 ∙ (of_other w.0).0, subst B at ((other_iff w.0).0 (g.given ∙ ap Some w.1))))
      (only g.refusal g.given),
)

-- A row that gives one refusal, at any place, agrees with the row of the page of demands with its condition.
pub fault_agrees : {o : Option Refusal} {A : ℕ → Type 0} (one : ℕ → Refusal) {a : ℕ} → ((p : ℕ) → (number_of (one p) ≡ a) × (place_of (one p) ≡ p))
    → ((p : ℕ) → (o ≡ Some (one p)) ↔ A p) → ((q : Refusal) → o ≡ Some q → (p : ℕ) × (q ≡ one p)) → Agrees o (λ number place. (number ≡ a) × A place)
fault_agrees {A = A} one of_one one_iff only number place = (
  λ h. record { refusal = one place; given = (one_iff place).1 h.1; number_is = h.0 ∙ sym (of_one place).0; place_is = sym (of_one place).1 },
  λ g. let w = only g.refusal g.given in
      let at : w.0 ≡ place = sym (g.place_is ∙ ap place_of w.1 ∙ (of_one w.0).1) in
      (g.number_is ∙ ap number_of w.1 ∙ (of_one w.0).0, subst A at ((one_iff w.0).0 (g.given ∙ ap Some w.1))),
)

-- Where two lists agree, the first row that is given has the same number and place in both.
pub first_agrees : (os : List (Option Refusal)) (rs : List Row) → AllAgree os rs
    → (number place : ℕ) → FirstRow rs number place ↔ IsGivenAt (first_given os) number place
unfolding FirstRow first_given
first_agrees [] [] a number place = (λ f. absurd f, λ g. absurd (not_given refl g))
first_agrees [] (r ∷ rs) a number place = absurd a
first_agrees (o ∷ os) [] a number place = absurd a
first_agrees (None ∷ os) (r ∷ rs) a number place = (
  ⊎_elim (λ here. absurd (not_given refl ((a.0 number place).0 here))) (λ rest. (first_agrees os rs (a.1 refl) number place).0 rest.1),
  λ g. inr (λ n p h. not_given refl ((a.0 n p).0 h), (first_agrees os rs (a.1 refl) number place).1 g),
)
first_agrees (Some q ∷ os) (r ∷ rs) a number place = (
  ⊎_elim (λ here. (a.0 number place).0 here)
      (λ rest. absurd (rest.0 (number_of q) (place_of q) ((a.0 (number_of q) (place_of q)).1 (record { refusal = q; given = refl; number_is = refl; place_is = refl })))),
  λ g. inl ((a.0 number place).1 g),
)

-- Where two lists agree, no row is given in the one exactly when none is in the other.
pub none_agrees : (os : List (Option Refusal)) (rs : List Row) → AllAgree os rs → NoRow rs ↔ (first_given os ≡ None)
unfolding NoRow first_given
none_agrees [] [] a = (λ _. refl, λ _. tt)
none_agrees [] (r ∷ rs) a = absurd a
none_agrees (o ∷ os) [] a = absurd a
none_agrees (None ∷ os) (r ∷ rs) a = (
  λ none_given. (none_agrees os rs (a.1 refl)).0 none_given.1,
  λ e. (λ n p h. not_given refl ((a.0 n p).0 h), (none_agrees os rs (a.1 refl)).1 e),
)
none_agrees (Some q ∷ os) (r ∷ rs) a = (
  λ none_given. absurd (none_given.0 (number_of q) (place_of q) ((a.0 (number_of q) (place_of q)).1 (record { refusal = q; given = refl; number_is = refl; place_is = refl }))),
  λ e. absurd (none_some (sym e)),
)

-- A call answers by the first row that is given: its struct and its area at exit are that refusal's; or, if no row is given, `counts` and `new`.
pub record GoesByRows (os : List (Option Refusal)) (counts : ReportCounts) (new area : List ℕ) (r : AnswerStruct) (out : List ℕ) : Type 0 where
  pub paper : paper_of r ≡ answer_paper no_report_counts (answer_by (first_given os) counts)
  pub written : out ≡ area_by (first_given os) new area

-- where a call is refused, the first row that is given has the paper's number and place
given_at : {C : Type 0} (zeros counts : C) (o : Option Refusal) {p : Paper C} → p ≡ answer_paper zeros (answer_by o counts) → 0 < p.number
    → IsGivenAt o p.number p.place
given_at {C} zeros counts None paper l = absurd (omega (arith, ap (λ (x : Paper C). x.number) paper))
given_at {C} zeros counts (Some q) paper l = record {
  refusal = q;
  given = refl;
  number_is = ap (λ (x : Paper C). x.number) paper;
  place_is = ap (λ (x : Paper C). x.place) paper;
}

-- An answer that the first row decides is accepted or refused by the table, whatever it counts, if the call's rows agree with the table's.
pub by_table_met : {C : Type 0} (zeros counts : C) (os : List (Option Refusal)) {rs : List Row} {p : Paper C} → AllAgree os rs
    → p ≡ answer_paper zeros (answer_by (first_given os) counts) → ByTable rs p.number p.place
by_table_met {C} zeros counts os {rs} {p} agree paper =
    let zero_iff : (p.number ≡ 0) ↔ (first_given os ≡ None) = accepted_number_iff zeros counts (first_given os) paper in
    record {
      accepted_iff = Iff.trans zero_iff (Iff.symm (none_agrees os rs agree));
      accepted_place = λ zero_is. ap (λ (x : Paper C). x.place) paper ∙ rw (zero_iff.0 zero_is) refl;
      refused_iff = λ number place. (
        λ f.
            let g = (first_agrees os rs agree number place).0 f in
            let is = (row_place_iff zeros counts (first_given os) paper g.refusal).1 g.given in
            (omega (arith, g.number_is, (number_in g.refusal).0), is.0 ∙ sym g.number_is, is.1 ∙ sym g.place_is),
        λ h.
            let g = given_at zeros counts (first_given os) paper (omega (arith, h.0, h.1)) in
            (first_agrees os rs agree number place).1
            (record { refusal = g.refusal; given = g.given; number_is = sym h.1 ∙ g.number_is; place_is = sym h.2 ∙ g.place_is }),
      );
    }

-- A call that answers by its rows meets demand 1, if its rows agree with those of the page of demands.
pub demand_1_met : {os : List (Option Refusal)} {rs : List Row} {counts : ReportCounts} {new area out : List ℕ} {r : AnswerStruct}
    → AllAgree os rs → GoesByRows os counts new area r out → Demand1 rs r area out
demand_1_met {os} {counts = counts} {new} {area} {r = r} agree by =
    let zeros : 0 < r.refusal → (paper_of r).counts ≡ no_report_counts = refused_counts no_report_counts counts (first_given os) by.paper in
    record {
      by_table = by_table_met no_report_counts counts os agree by.paper;
      no_found = λ l. ap (λ (c : ReportCounts). c.found) (zeros l);
      no_hidden = λ l. ap (λ (c : ReportCounts). c.hidden) (zeros l);
      no_looks = λ l. ap (λ (c : ReportCounts). c.looks) (zeros l);
      untouched = refused_area no_report_counts counts (first_given os) by.paper new area by.written;
    }

-- What an accepted call that answers by its rows gives: no row is given, and the counts and the area at exit are the call's own.
pub record Accepts (os : List (Option Refusal)) (counts : ReportCounts) (new : List ℕ) (r : AnswerStruct) (out : List ℕ) : Type 0 where
  pub none_given : first_given os ≡ None
  pub counts_are : (paper_of r).counts ≡ counts
  pub written : out ≡ new

-- If a call that answers by its rows has refusal 0, `Accepts` holds.
pub accepts : {os : List (Option Refusal)} {counts : ReportCounts} {new area out : List ℕ} {r : AnswerStruct}
    → GoesByRows os counts new area r out → r.refusal ≡ 0 → Accepts os counts new r out
accepts {os} {counts} {new} {area} {out} {r} by zero_is =
    let none_given = (accepted_number_iff no_report_counts counts (first_given os) by.paper).0 zero_is in
    record {
      none_given = none_given;
      counts_are = accepted_counts no_report_counts counts (first_given os) by.paper none_given;
      written = by.written ∙ ap (λ (o : Option Refusal). area_by o new area) none_given;
    }
