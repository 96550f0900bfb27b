-- What was read from bytes is stored as they were: each field's bytes are those that were taken, and all of them are the whole.
-- Taking some bytes and then those behind them is taking both at once.
use Rattle.std.specs.Prelude.{◌≡◌, List, [], ◌∷◌, ◌++◌, ℕ, zero, suc, ◌+◌, ◌*◌, ◌≤◌, length, get_or, take, drop}
use Rattle.std.proofs.Common.{sym, ap, ap₂, ◌∙◌, arith, take-add, get_or-drop}
use Rattle.std.proofs.lemmas.List.{drop-drop, length-drop, take_all}
use Rattle.rules.specs.Limits.{max_jobs, max_resources}
use Rattle.station.specs.declared.State.{State}
use Rattle.field.specs.Field.{two, pair_at}
use Rattle.field.specs.Laws.{Bytes, one_back, two_back}
use Rattle.field.proofs.Numbers.{bytes_drop, pair-drop}
use Rattle.state_form.specs.Items.{each, items}
use Rattle.state_form.specs.Form.{job_size, job_bytes, job_read, started_size, started_bytes, started_read, number_bytes, number_read}
use Rattle.state_form.specs.Form.{units_at, resource_count_at, jobs_at, job_count_at, stack_at, depth_at, waiting_at, waiting_count_at}
use Rattle.state_form.specs.Form.{state_bytes, state_read, state_size}
use Rattle.state_form.proofs.Stored.{to_units, to_resource_count, to_jobs, to_job_count, to_stack, to_depth, to_waiting, to_waiting_count, to_end}

-- n bytes of s, from a place on.
abbrev pub part : List ℕ → ℕ → ℕ → List ℕ
part s at n = take n (drop at s)

next_part : (s : List ℕ) (at n m : ℕ) → part s at n ++ part s (at + n) m ≡ part s at (n + m)
next_part s at n m = ap (λ (r : List ℕ). part s at n ++ take m r) (sym (drop-drop n at s)) ∙ sym (take-add n m (drop at s))

-- Two runs, the second behind the first.
then : (s u v : List ℕ) (at n m : ℕ) → u ≡ part s at n → v ≡ part s (at + n) m → u ++ v ≡ part s at (n + m)
then s u v at n m e f = ap₂ (λ (x y : List ℕ). x ++ y) e f ∙ next_part s at n m

items_part : {A : Type 0} (bytes : A → List ℕ) (read : List ℕ → ℕ → A) (w : ℕ) (s : List ℕ)
    → ((at : ℕ) → at + w ≤ length s → bytes (read s at) ≡ part s at w)
    → (n at : ℕ) → at + w * n ≤ length s → each bytes (items read w n s at) ≡ part s at (w * n)
items_part bytes read w s one zero at h = let e : 0 ≡ w * 0 = grind arith in ap (λ (k : ℕ). part s at k) e
items_part bytes read w s one (suc n) at h =
    let e : w + w * n ≡ w * suc n = grind arith in
    then s (bytes (read s at)) (each bytes (items read w n s (at + w))) at w (w * n)
    (one at (omega (arith, h, e)))
    (items_part bytes read w s one n (at + w) (omega (arith, h, e)))
    ∙ ap (λ (k : ℕ). part s at k) e

module _ (s : List ℕ) (y : Bytes s) where
  byte_part : (at : ℕ) → at + 1 ≤ length s → get_or s at 0 ∷ [] ≡ part s at 1
  byte_part at h =
      let e : at + 0 ≡ at = omega arith in
      ap (λ (x : ℕ). x ∷ []) (sym (get_or-drop at s 0 0 ∙ ap (λ (i : ℕ). get_or s i 0) e))
      ∙ sym (one_back (drop at s) (omega (arith, length-drop at s, h)))

  pair_part : (at : ℕ) → at + 2 ≤ length s → two (pair_at s at) ≡ part s at 2
  pair_part at h =
      let e : at + 0 ≡ at = omega arith in
      ap two (sym (pair-drop at s 0 ∙ ap (λ (i : ℕ). pair_at s i) e))
      ∙ sym (two_back (drop at s) (bytes_drop at s y) (omega (arith, length-drop at s, h)))

  pairs_part : (n at : ℕ) → at + 2 * n ≤ length s → each two (items pair_at 2 n s at) ≡ part s at (2 * n)
  pairs_part n at h = items_part two pair_at 2 s pair_part n at h

  job_part : (at : ℕ) → at + job_size ≤ length s → job_bytes (job_read s at) ≡ part s at job_size
  job_part at h =
      then s (get_or s at 0 ∷ two (pair_at s (at + 1))) (each two (items pair_at 2 max_resources s (at + 3))) at 3 (2 * max_resources)
      (then s (get_or s at 0 ∷ []) (two (pair_at s (at + 1))) at 1 2 (byte_part at (omega (arith, h))) (pair_part (at + 1) (omega (arith, h))))
      (pairs_part max_resources (at + 3) (omega (arith, h)))

  started_part : (at : ℕ) → at + started_size ≤ length s → started_bytes (started_read s at) ≡ part s at started_size
  started_part at h =
      then s (get_or s at 0 ∷ []) (each two (items pair_at 2 max_resources s (at + 1))) at 1 (2 * max_resources)
      (byte_part at (omega (arith, h)))
      (pairs_part max_resources (at + 1) (omega (arith, h)))

  -- ---- a state

  module _ (l : length s ≡ state_size) where
    x : State
    x = state_read s

    part_to_units : to_units x ≡ part s 0 units_at
    unfolding x state_read
    part_to_units = pair_part 0 (omega (arith, l))

    part_to_resource_count : to_resource_count x ≡ part s 0 resource_count_at
    unfolding x state_read
    part_to_resource_count =
        then s (to_units x) (each two x.table.units) 0 units_at (2 * max_resources) part_to_units (pairs_part max_resources units_at (omega (arith, l)))

    part_to_jobs : to_jobs x ≡ part s 0 jobs_at
    unfolding x state_read
    part_to_jobs =
        then s (to_resource_count x) (x.table.resource_count ∷ []) 0 resource_count_at 1 part_to_resource_count (byte_part resource_count_at (omega (arith, l)))

    part_to_job_count : to_job_count x ≡ part s 0 job_count_at
    unfolding x state_read
    part_to_job_count =
        then s (to_jobs x) (each job_bytes x.table.jobs) 0 jobs_at (job_size * max_jobs) part_to_jobs
        (items_part job_bytes job_read job_size s job_part max_jobs jobs_at (omega (arith, l)))

    part_to_stack : to_stack x ≡ part s 0 stack_at
    unfolding x state_read
    part_to_stack = then s (to_job_count x) (x.table.job_count ∷ []) 0 job_count_at 1 part_to_job_count (byte_part job_count_at (omega (arith, l)))

    part_to_depth : to_depth x ≡ part s 0 depth_at
    unfolding x state_read
    part_to_depth =
        then s (to_stack x) (each started_bytes x.stack) 0 stack_at (started_size * max_jobs) part_to_stack
        (items_part started_bytes started_read started_size s started_part max_jobs stack_at (omega (arith, l)))

    part_to_waiting : to_waiting x ≡ part s 0 waiting_at
    unfolding x state_read
    part_to_waiting = then s (to_depth x) (x.depth ∷ []) 0 depth_at 1 part_to_depth (byte_part depth_at (omega (arith, l)))

    part_to_waiting_count : to_waiting_count x ≡ part s 0 waiting_count_at
    unfolding x state_read
    part_to_waiting_count =
        then s (to_waiting x) (each number_bytes x.waiting) 0 waiting_at (1 * max_jobs) part_to_waiting
        (items_part number_bytes number_read 1 s byte_part max_jobs waiting_at (omega (arith, l)))

    part_to_end : to_end x ≡ part s 0 state_size
    unfolding x state_read
    part_to_end =
        then s (to_waiting_count x) (x.waiting_count ∷ []) 0 waiting_count_at 1 part_to_waiting_count (byte_part waiting_count_at (omega (arith, l)))

    -- Storing what was read gives the bytes.
    pub write_read : state_bytes (state_read s) ≡ s
    unfolding state_bytes x
    write_read = part_to_end ∙ take_all state_size s (omega (arith, l))
