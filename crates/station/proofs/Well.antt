-- Well formed in the rules and as arrays is one: a well-formed state holds one of the rules, if its table lists a job, and the arrays that hold
-- a state of the rules are well formed and read as that state. Each started job has as many holdings as its need has, so as there are resources.
use Rattle.std.specs.Prelude.{◌≡◌, refl, true, List, [], ◌∷◌, map, reverse, ℕ, ◌+◌, ◌-◌, ◌≤◌, ◌<◌, length, replicate}
use Rattle.std.proofs.Common.{ap, ◌∙◌, arith, take_at, eq-eqb}
use Rattle.std.proofs.lemmas.Bool.{and_parts, and_from}
use Rattle.std.proofs.lemmas.List.{length-map, length-reverse}
use Rattle.rules.specs.Limits.{max_jobs, max_resources}
use Rattle.rules.specs.Counting.{every, none_above}
use Rattle.rules.specs.Table as T
use Rattle.rules.specs.Table.{job_count, resource_count, job_of}
use Rattle.rules.specs.State as R
use Rattle.rules.specs.WellFormed.{within_needs, well_kept}
use Rattle.rules.specs.WellFormed as W
use Rattle.rules.proofs.Counts.{none_above-length, every_reverse}
use Rattle.rules.proofs.Tables.{good_table}
use Rattle.rules.proofs.Order.{Live}
use Rattle.rules.proofs.Well.{Well, well_parts, well_kept_lem, All, all_map, live_all}
use Rattle.table.specs.declared.Table.{Table}
use Rattle.table.specs.Arrays.{table_of}
use Rattle.table.specs.Judging.{table_judged}
use Rattle.table.proofs.Fit.{fit, resources_listed, few_jobs_listed, listed_written}
use Rattle.table.proofs.Padded.{length-padded, every_padded}
use Rattle.station.specs.declared.State.{State}
use Rattle.station.specs.Arrays.{state_of, number_in, started_arrays, started_of_zeros, arrays_of}
use Rattle.station.specs.WellFormed.{held_blank, started_blank, well_formed}
use Rattle.station.proofs.View.{no_one}
use Rattle.station.proofs.Parts.{none_there, Blank, formed, formed_well, table_fit}
use Rattle.station.proofs.Back.{held_padded, zeros_blank, back_state}
use Rattle.station.proofs.Room.{active_few, room}

-- ---- a well-formed state holds one of the rules

-- If its table lists a job ..
pub well_listed : (s : State) → well_formed s ≡ true → 0 < job_count (table_of s.table) → Well (table_of s.table) (state_of s)
well_listed s h l =
    let f = formed s h in
    well_parts (table_of s.table) (state_of s) (unfold W.well_formed in and_from _ _ (eq-eqb _ 0 (listed_written s.table (table_fit s h) l)) f.kept)

-- .. and it does if a job is started or waits.
pub well_active : (s : State) → well_formed s ≡ true → 0 < s.depth + s.waiting_count → Well (table_of s.table) (state_of s)
well_active s h l = well_listed s h (omega (arith, (room s h).active))

-- ---- the arrays that hold one of the rules

-- A started job has a holding for each resource that is listed, ..
held_lengths : (t : T.Table) (s : R.State) → Well t s → All (λ (f : R.Started). length f.held ≡ resource_count t) s.stack
unfolding none_above every
held_lengths t s w = go s.stack w.needs (live_all t s w).0
  where
    go : (fs : List R.Started) → within_needs t fs ≡ true → All (λ (f : R.Started). Live t s f.entry) fs → All (λ (f : R.Started). length f.held ≡ resource_count t) fs
    go [] h l = tt
    go (f ∷ fs) h l =
        let p = and_parts (none_above (job_of t f.entry.who).needs f.held) (within_needs t fs) h in
        (none_above-length (job_of t f.entry.who).needs f.held p.0 ∙ (good_table t w.table).full f.entry.who l.0.listed, go fs p.1 l.1)

-- .. so for each that is counted.
held_listed : (t : Table) (st : R.State) → table_judged t ≡ 0 → length t.units ≡ max_resources → Well (table_of t) st
    → All (λ (f : R.Started). length f.held ≡ t.resource_count) st.stack
held_listed t st j u w =
    all_map (λ (f : R.Started). length f.held ≡ resource_count (table_of t)) (λ (f : R.Started). length f.held ≡ t.resource_count)
    (λ f h. h ∙ resources_listed t (fit t j) u)
    st.stack (held_lengths (table_of t) st w)

-- A state of the rules that is well formed is read again from its arrays ..
pub well_back : (t : Table) (st : R.State) → table_judged t ≡ 0 → length t.units ≡ max_resources → Well (table_of t) st → state_of (arrays_of t st) ≡ st
well_back t st j u w = back_state t st (held_listed t st j u w)

-- The places of the stack, made up with zeros.
listed_padded : (m : ℕ) (fs : List R.Started) → m ≤ max_resources → All (λ (f : R.Started). length f.held ≡ m) fs
    → every (held_blank m) (map started_arrays fs) ≡ true
unfolding every
listed_padded m [] l h = refl
listed_padded m (f ∷ fs) l h = and_from _ _ (held_padded m f h.0 l) (listed_padded m fs l h.1)

-- Past its counts the arrays hold nothing.
arrays_blank : (t : Table) (st : R.State) → t.resource_count ≤ max_resources → All (λ (f : R.Started). length f.held ≡ t.resource_count) st.stack
    → length st.stack ≤ max_jobs → length st.waiting ≤ max_jobs → Blank (arrays_of t st)
arrays_blank t st m h d n =
    let fs = reverse (map started_arrays st.stack) in
    let ks = map number_in st.waiting in
    let e : length fs ≡ length st.stack = length-reverse (map started_arrays st.stack) ∙ length-map st.stack started_arrays in
    let k : length ks ≡ length st.waiting = length-map st.waiting number_in in
    record {
      depth_fits = d;
      count_fits = n;
      stack_length = length-padded started_of_zeros max_jobs fs (omega arith);
      held_fits =
          ap (every (held_blank t.resource_count)) (take_at fs (replicate (max_jobs - length fs) started_of_zeros) (length st.stack) e)
          ∙ every_reverse (held_blank t.resource_count) (map started_arrays st.stack)
          ∙ listed_padded t.resource_count st.stack m h;
      stack_past =
          every_padded started_blank started_of_zeros max_jobs (length st.stack) fs zeros_blank e;
      waiting_length = length-padded no_one max_jobs ks (omega arith);
      waiting_past = every_padded none_there no_one max_jobs (length st.waiting) ks refl k;
    }

-- .. and they are well formed.
pub arrays_well : (t : Table) (st : R.State) → table_judged t ≡ 0 → length t.units ≡ max_resources → Well (table_of t) st → well_formed (arrays_of t st) ≡ true
arrays_well t st j u w =
    let f = fit t j in
    let k = well_kept_lem (table_of t) st w in
    let few = active_few (table_of t) st k in
    let room = few_jobs_listed t f in
    formed_well (arrays_of t st) (record {
      judged = j;
      padding = arrays_blank t st f.few_resources (held_listed t st j u w) (omega arith) (omega arith);
      kept = ap (well_kept (table_of t)) (well_back t st j u w) ∙ k;
    })
