-- How a well-formed state stays well formed: what an accepted event leaves is the arrays that hold the rules' state after it, which is well
-- formed by the rules; a refused event leaves the state as it was.
use Rattle.std.specs.Prelude.{◌≡◌, refl, true, false, List, ◌∷◌, ℕ, ◌<◌, length, leb, eqb}
use Rattle.std.proofs.Common.{ap, sym, ◌∙◌, arith}
use Rattle.std.proofs.lemmas.Bool.Decides.{nat_tests}
use Rattle.rules.specs.Limits.{max_resources}
use Rattle.rules.specs.Choice.{Check, refuse, first_bad}
use Rattle.rules.specs.Events as R
use Rattle.rules.specs.State as Rules
use Rattle.rules.specs.Table as T
use Rattle.rules.specs.Table.{job_count}
use Rattle.rules.proofs.Kept.{well_change, well_after}
use Rattle.rules.proofs.Well.{Well}
use Rattle.table.specs.Arrays.{table_of}
use Rattle.table.specs.Judging.{table_judged}
use Rattle.table.specs.declared.Table.{Table}
use Rattle.station.specs.declared.State.{State}
use Rattle.station.specs.Arrays.{state_of, arrays_of}
use Rattle.station.specs.WellFormed.{well_formed}
use Rattle.station.specs.Applying.{changed}
use Rattle.station.proofs.Parts.{formed}
use Rattle.station.proofs.Well.{well_listed, well_back, arrays_well}

-- Arrays that are well formed, with this table, and hold this state of the rules.
pub record Holds (t : Table) (st : Rules.State) (s : State) : Type 0 where
  pub formed : well_formed s ≡ true
  pub view : state_of s ≡ st
  pub table : s.table ≡ t

-- The arrays of a state that is well formed by the rules are such.
holds : (t : Table) (st : Rules.State) → length t.units ≡ max_resources → table_judged t ≡ 0 → Well (table_of t) st
    → (s : State) → s ≡ arrays_of t st → Holds t st s
holds t st u j w s e =
    record {
      formed = ap well_formed e ∙ arrays_well t st j u w;
      view = ap state_of e ∙ well_back t st j u w;
      table = ap (λ (x : State). x.table) e;
    }

-- An event that is accepted is one of a listed job ..
job_listed : (n j : ℕ) (cs : List Check) → first_bad (refuse (leb n j) 12 ∷ cs) ≡ 0 → 0 < n
unfolding first_bad
job_listed n j cs h = grind (arith, nat_tests)

accepted_listed : (t : T.Table) (s : Rules.State) (e : R.Event) → R.refusal t s e ≡ 0 → 0 < job_count t
unfolding R.refusal
accepted_listed t s (R.arrive j) h = job_listed (job_count t) j _ h
accepted_listed t s (R.acquire j r n) h = job_listed (job_count t) j _ h
accepted_listed t s (R.release j r n) h = job_listed (job_count t) j _ h
accepted_listed t s (R.finish j) h = job_listed (job_count t) j _ h
accepted_listed t s (R.release_all j) h = job_listed (job_count t) j _ h

-- .. so what it has left before any start test is well formed.
pub holds_changed : (s : State) (e : R.Event) (left : State) → length s.table.units ≡ max_resources → well_formed s ≡ true
    → 0 ≡ R.refusal (table_of s.table) (state_of s) e → left ≡ changed s e → Holds s.table (R.change (table_of s.table) (state_of s) e) left
unfolding changed
holds_changed s e left u h a c =
    let t = table_of s.table in
    let w = well_listed s h (accepted_listed t (state_of s) e (sym a)) in
    holds s.table (R.change t (state_of s) e) u (formed s h).judged (well_change t (state_of s) e (sym a) w) left (c ∙ rw (← a) refl)

-- .. and so is what it has left after one.
pub holds_after : (s : State) (e : R.Event) (after : State) → length s.table.units ≡ max_resources → well_formed s ≡ true
    → 0 ≡ R.refusal (table_of s.table) (state_of s) e → after ≡ arrays_of s.table (R.after (table_of s.table) (state_of s) e)
    → Holds s.table (R.after (table_of s.table) (state_of s) e) after
holds_after s e after u h a c =
    let t = table_of s.table in
    let w = well_listed s h (accepted_listed t (state_of s) e (sym a)) in
    holds s.table (R.after t (state_of s) e) u (formed s h).judged (well_after t (state_of s) e w) after c

-- A refused event leaves the state as it was.
pub changed_refused : (s : State) (e : R.Event) → eqb (R.refusal (table_of s.table) (state_of s) e) 0 ≡ false → changed s e ≡ s
unfolding changed
changed_refused s e a = rw a refl
