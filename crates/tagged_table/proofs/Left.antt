-- What the walk over the fields keeps, how a field leaves it, and how it goes on: reading from here on is the whole reading, the arrays hold
-- what has been read so far, and that is in range. Each exit is the field's first bad test, by the lemmas on what the code's parts answer.
use Rattle.std.specs.Prelude.{◌≡◌, refl, Bool, true, false, List, ℕ, suc, ◌+◌, ◌≤◌, length, drop, Result, Ok, Err, OnOk, Some, None}
use Rattle.std.proofs.Common.{sym, ap, ap₂, ◌∙◌, zero-le, arith}
use Rattle.std.proofs.Math.Seq.{drop-drop}
use Rattle.rules.specs.Choice.{pick}
use Rattle.rules.specs.Table as R
use Rattle.rules.specs.Table.{job_good, stack_good}
use Rattle.rules.proofs.Tables.{need_count}
use Rattle.table.specs.declared.Table.{Table}
use Rattle.table.specs.declared.RefusedAt.{RefusedAt}
use Rattle.table.specs.declared.Refusal.TheVariants.{StackTooSmall}
use Rattle.table.specs.Arrays.{table_of, arrays_of, table_of_zeros}
use Rattle.table.specs.Refusals.{refused_at, numbers_of}
use Rattle.table.proofs.Back.{table_back}
use Rattle.field.specs.Field.{tag_of, length_of, framed}
use Rattle.field.specs.Parts.{head_at, value_at}
use Rattle.field.proofs.Walk.{HeadIs, head_short, not_here, not_long, not_whole, is_whole, value_within}
use Rattle.tagged_table.specs.Form.{Sofar, nothing, stands, wants, may_follow, length_wanted, good, grown, judged, took, Reading, ended, table_reading}
use Rattle.tagged_table.specs.Answers.{end_said, end_of, table_in}
use Rattle.tagged_table.specs.Parts.{end_answer, Stores}
use Rattle.tagged_table.proofs.Outcome.{ok_not_err}
use Rattle.tagged_table.proofs.Walk.{reading_from, whole, from_bad, from_end, from_next}
use Rattle.tagged_table.proofs.Ends.{is_standing}
use Rattle.tagged_table.proofs.WriteBack.{InRange, nothing_in_range, grown_in_range}

pub record Left (s : List ℕ) (t : Table) (last at : ℕ) : Type 0 where
  pub p : Sofar
  pub is : t ≡ arrays_of p.table
  pub stage : last ≡ p.last
  pub kept : InRange p
  pub inside : at ≤ length s
  pub same : reading_from p (drop at s) at ≡ table_reading s

pub left_start : (s : List ℕ) (t : Table) → t ≡ table_of_zeros → Left s t 0 0
left_start s t e = record { p = nothing; is = e; stage = refl; kept = nothing_in_range; inside = zero-le; same = sym (whole s) }

framed_judged : (p : Sofar) (b : List ℕ) (n : ℕ) → framed (stands p) (wants p) b ≡ suc n → judged p b ≡ suc n
unfolding judged
framed_judged p b n e = simp e

value_judged : (p : Sofar) (b : List ℕ) (g : Bool) → framed (stands p) (wants p) b ≡ 0 → good p (tag_of b) (drop 3 b) ≡ g → judged p b ≡ pick g 0 4
unfolding judged
value_judged p b g e h = simp (e, h)

-- What the end field leaves: the answer, and the table that was read.
pub record Ends (s : List ℕ) (new : Table) (k : ℕ) : Type 0 where
  pub end : end_said (end_answer (table_of new) k) ≡ end_of (table_reading s)
  pub table : stack_good (table_of new) ≡ true → new ≡ arrays_of (table_in (table_reading s))

end_cases : (g : Bool) (t : R.Table) (k : ℕ)
    → end_said (pick g (Ok k) (Err (record { refusal = StackTooSmall; place = k }))) ≡ end_of (pick g (took k t) (refused_at 5 k))
end_cases true t k = refl
end_cases false t k = refl

pub ends_on_ok : (s : List ℕ) (new : Table) (k : ℕ) → Ends s new k → OnOk (end_answer (table_of new) k) (new ≡ arrays_of (table_in (table_reading s)))
ends_on_ok s new k x = go (stack_good (table_of new)) x.table
  where
    go : (g : Bool) → (g ≡ true → new ≡ arrays_of (table_in (table_reading s)))
        → OnOk {E = RefusedAt} (pick g (Ok k) (Err (record { refusal = StackTooSmall; place = k }))) (new ≡ arrays_of (table_in (table_reading s)))
    go true h = h refl
    go false h = tt

same_err : (d e : RefusedAt) → ◌≡◌ {A = Result (Unit {0}) RefusedAt} (Err d) (Err e) → d ≡ e
same_err d e h = grind arith

module _ (s : List ℕ) (t : Table) (last at : ℕ) (l : Left s t last at) where
  may_is : (tag : ℕ) → stands l.p tag ≡ may_follow last t.resource_count t.job_count tag
  unfolding stands
  may_is tag =
      ap (λ (k : ℕ). may_follow k (length l.p.table.units) (length l.p.table.jobs) tag) (sym l.stage)
      ∙ ap (λ (x : Table). may_follow last x.resource_count x.job_count tag) (sym l.is)

  wants_is : (tag : ℕ) → wants l.p tag ≡ length_wanted t.resource_count tag
  unfolding wants
  wants_is tag = ap (λ (x : Table). length_wanted x.resource_count tag) (sym l.is)

  stop : (n : ℕ) → framed (stands l.p) (wants l.p) (drop at s) ≡ suc n → table_reading s ≡ refused_at (suc n) at
  stop n e = sym l.same ∙ from_bad l.p (drop at s) at n (framed_judged l.p (drop at s) n e)

  -- 1
  pub stop_short : None ≡ head_at s at → table_reading s ≡ refused_at 1 at
  stop_short e = stop 0 (head_short s at (stands l.p) (wants l.p) e)

  module _ (tag len : ℕ) (i : HeadIs s at tag len) where
    -- 2
    pub stop_tag : may_follow last t.resource_count t.job_count tag ≡ false → table_reading s ≡ refused_at 2 at
    stop_tag m = stop 1 (not_here s at tag len i (stands l.p) (wants l.p) (may_is tag ∙ m))

    module _ (m : may_follow last t.resource_count t.job_count tag ≡ true) where
      -- 3
      pub stop_length : (len ≡ length_wanted t.resource_count tag → ⊥) → table_reading s ≡ refused_at 3 at
      stop_length n = stop 2 (not_long s at tag len i (stands l.p) (wants l.p) (may_is tag ∙ m) (λ e. n (e ∙ wants_is tag)))

      module _ (n : len ≡ length_wanted t.resource_count tag) where
        -- 1
        pub stop_cut : None ≡ value_at s at len → table_reading s ≡ refused_at 1 at
        stop_cut e = stop 0 (not_whole s at tag len i (stands l.p) (wants l.p) (may_is tag ∙ m) (n ∙ sym (wants_is tag)) e)

        -- a field that stands whole, and what storing its value does
        module _ (k : ℕ) (w : Some k ≡ value_at s at len) (new : Table) (result : Result (Unit {0}) RefusedAt) (st : Stores t new tag (drop k s) at result) where
          it : (framed (stands l.p) (wants l.p) (drop at s) ≡ 0) × (k ≡ at + 3)
          it = is_whole s at tag len i (stands l.p) (wants l.p) (may_is tag ∙ m) (n ∙ sym (wants_is tag)) k w

          value_is : drop 3 (drop at s) ≡ drop k s
          value_is = drop-drop 3 at s ∙ ap (λ (j : ℕ). drop j s) (sym it.1)

          good_is : (g : Bool) → good l.p tag (drop k s) ≡ g → good l.p (tag_of (drop at s)) (drop 3 (drop at s)) ≡ g
          good_is g e = ap₂ (good l.p) i.tag value_is ∙ e

          -- 4
          pub stop_range : (e : RefusedAt) → result ≡ Err e → table_reading s ≡ Err (numbers_of e)
          stop_range e r = go (good l.p tag (drop k s)) refl
            where
              go : (g : Bool) → good l.p tag (drop k s) ≡ g → table_reading s ≡ Err (numbers_of e)
              go true q = absurd (ok_not_err tt e (sym (st.in_range l.p l.is q).0 ∙ r))
              go false q = sym l.same ∙ from_bad l.p (drop at s) at 3 (value_judged l.p (drop at s) false it.0 (good_is false q)) ∙ ap (λ (x : RefusedAt). Err (numbers_of x)) (same_err _ e (sym (st.out_of_range l.p l.is q) ∙ r))

          stored : result ≡ Ok tt → (good l.p tag (drop k s) ≡ true) × (new ≡ arrays_of (grown l.p tag (drop k s)).table)
          stored r = go (good l.p tag (drop k s)) refl
            where
              go : (g : Bool) → good l.p tag (drop k s) ≡ g → (good l.p tag (drop k s) ≡ true) × (new ≡ arrays_of (grown l.p tag (drop k s)).table)
              go true q = (q, (st.in_range l.p l.is q).1)
              go false q = absurd (ok_not_err tt _ (sym r ∙ st.out_of_range l.p l.is q))

          behind : (j : ℕ) → drop (at + j) s ≡ drop j (drop at s)
          behind j = sym (drop-drop j at s)

          -- the end field
          pub stop_end : result ≡ Ok tt → tag ≡ 5 → Ends s new k
          unfolding grown ended
          stop_end r e =
              let g = stored r in
              let back : table_of new ≡ l.p.table =
              ap table_of (g.1 ∙ ap (λ (j : ℕ). arrays_of (grown l.p j (drop k s)).table) e) ∙ table_back l.p.table (need_count l.p.table l.kept.jobs) in
              let read : table_reading s ≡ ended l.p k =
              sym l.same
              ∙ from_end l.p (drop at s) at (value_judged l.p (drop at s) true it.0 (good_is true g.0)) (i.tag ∙ e)
              ∙ ap (ended l.p) (sym it.1) in
              record {
                end =
                    ap (λ (x : R.Table). end_said (end_answer x k)) back
                    ∙ end_cases (stack_good l.p.table) l.p.table k
                    ∙ ap end_of (sym read);
                table = λ h.
                    g.1
                    ∙ ap (λ (j : ℕ). arrays_of (grown l.p j (drop k s)).table) e
                    ∙ ap (λ (x : Reading). arrays_of (table_in x))
                    (sym (read ∙ ap (λ (b : Bool). pick b (took k l.p.table) (refused_at 5 k)) (sym (ap stack_good back) ∙ h)));
              }

          -- a field that is good, and what is known then
          pub go_on : result ≡ Ok tt → (tag ≡ 5 → ⊥) → Left s new tag (k + len)
          unfolding grown
          go_on r e =
              let g = stored r in
              let a : k + len ≡ at + (3 + length_of (drop at s)) = omega (arith, it.1, i.len) in
              let d : drop (k + len) s ≡ drop (3 + length_of (drop at s)) (drop at s) =
              ap (λ (j : ℕ). drop j s) a ∙ behind (3 + length_of (drop at s)) in
              record {
                p = grown l.p tag (drop k s);
                is = g.1;
                stage = refl;
                kept = grown_in_range l.p (drop k s) l.kept (is_standing l.p tag (may_is tag ∙ m)) g.0 e;
                inside = omega (arith, it.1, value_within s at len k w);
                same =
                    ap₂ (reading_from (grown l.p tag (drop k s))) d a
                    ∙ ap (λ (q : Sofar). reading_from q (drop (3 + length_of (drop at s)) (drop at s)) (at + (3 + length_of (drop at s))))
                    (ap₂ (grown l.p) (sym i.tag) (sym value_is))
                    ∙ sym (from_next l.p (drop at s) at (value_judged l.p (drop at s) true it.0 (good_is true g.0)) (λ z. e (sym i.tag ∙ z)))
                    ∙ l.same;
              }
