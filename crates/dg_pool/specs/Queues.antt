-- A closable queue, and what its calls give. A relation says both which answers there may be and when each comes.
use Rattle.std.specs.Prelude.{◌≡◌, List, [], ◌∷◌, ◌++◌, Bool, true, false, not, ◌&&◌, Option, Some, None, Result, Ok, Err, refl}
use Rattle.std.specs.Coded.{Coded, code_by, coded×, coded_list, coded_bool}
use Rattle.dg_pool.specs.declared.refusal.PutRefusal.{PutRefusal}
use Rattle.dg_pool.specs.declared.refusal.PutRefusal.TheVariants as refusal

-- the jobs, the next one first, and whether no more may be put
pub record Closable (J : Type 0) : Type 0 where
  pub jobs : List J
  pub closed : Bool

abbrev pub closable_code : {J : Type 0} → Coded J → Coded (Closable J)
closable_code {J} job = code_by (List J × Bool) (coded× (coded_list job) coded_bool) (λ q. (q.jobs, q.closed)) (λ p. record { jobs = p.0; closed = p.1 }) (λ _. refl)

abbrev pub open_queue : {J : Type 0} → Closable J
open_queue = record { jobs = []; closed = false }

abbrev pub closed_now : {J : Type 0} → Closable J → Closable J
closed_now q = record { jobs = q.jobs; closed = true }

abbrev pub is_empty : {J : Type 0} → List J → Bool
is_empty [] = true
is_empty (j ∷ js) = false

-- there is nothing to take yet
abbrev pub must_wait : {J : Type 0} → Closable J → Bool
must_wait q = not q.closed && is_empty q.jobs

-- an open queue has the job at its end, or has no room for it; a closed one refuses it. A refusal has the job, and leaves the queue
abbrev pub PutGives : {J : Type 0} → J → Closable J → Closable J → Result (Unit {0}) (PutRefusal J) → Type 0
PutGives j q w (Ok _) = (q.closed ≡ false) × (w ≡ record { jobs = q.jobs ++ j ∷ []; closed = false })
PutGives j q w (Err (refusal.Closed k)) = (q.closed ≡ true) × (k ≡ j) × (w ≡ q)
PutGives j q w (Err (refusal.NoMemory k)) = (q.closed ≡ false) × (k ≡ j) × (w ≡ q)

-- the next job goes; there is none only in a queue that is closed and empty, which stays
abbrev pub TakeGives : {J : Type 0} → Closable J → Closable J → Option J → Type 0
TakeGives q w (Some j) = q ≡ record { jobs = j ∷ w.jobs; closed = w.closed }
TakeGives q w None = (q ≡ record { jobs = []; closed = true }) × (w ≡ q)
