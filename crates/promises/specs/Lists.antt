-- The lists of waiting requests.
use Rattle.std.specs.Prelude.{ℕ, Bool, true, false, cond, not, ◌&&◌, ◌||◌, List, [], ◌∷◌, Some, None, count_by, Option, ◌==◌}
use Rattle.tagged.specs.Operations.{condition}
use Rattle.tagged.specs.Rule.{same_state}
use Rattle.tagged.specs.declared.answers.Notice.{Notice}
use Rattle.tagged.specs.declared.answers.Notice.TheVariants.{BusSWr, BusSCl}
use Rattle.tagged.specs.declared.words.WordState.{WordState}
use Rattle.tagged.specs.declared.words.WordState.TheVariants.{Empty, Full}
use Rattle.promises.specs.Board.{Entry, State}
use Rattle.promises.specs.Copies.{over_cores}

abbrev pub on_word : ℕ → Entry → Bool
on_word w e = e.word == w

abbrev pub any_entry : (Entry → Bool) → List Entry → Bool
any_entry p [] = false
any_entry p (e ∷ es) = p e || any_entry p es

abbrev pub numbered : ℕ → Entry → Bool
numbered k e = e.number == k

-- the list without its entry with number k
abbrev pub without : ℕ → List Entry → List Entry
without k [] = []
without k (e ∷ es) = cond (numbered k e) es (e ∷ without k es)

abbrev pub set_asleep : Bool → Entry → Entry
set_asleep b e = record { number = e.number; operation = e.operation; word = e.word; value = e.value; asleep = b }

-- the entry with number k falls asleep
abbrev pub put_to_sleep : ℕ → List Entry → List Entry
put_to_sleep k [] = []
put_to_sleep k (e ∷ es) = cond (numbered k e) (set_asleep true e ∷ es) (e ∷ put_to_sleep k es)

-- the oldest entry that is awake and has no older one on its word; `older` are those before the list
abbrev pub oldest_ready : List Entry → List Entry → Option Entry
oldest_ready older [] = None
oldest_ready older (e ∷ es) = cond (not e.asleep && not (any_entry (on_word e.word) older)) (Some e) (oldest_ready (e ∷ older) es)

-- the state that a notice tells of
abbrev pub told_state : Option Notice → Option WordState
told_state None = None
told_state (Some BusSWr) = Some Full
told_state (Some BusSCl) = Some Empty

abbrev pub needs_told : Option WordState → Option WordState → Bool
needs_told None told = false
needs_told (Some needed) None = false
needs_told (Some needed) (Some told) = same_state needed told

-- a sleeper on word w that waits for the state that the notice tells
abbrev pub wakes : Option Notice → ℕ → Entry → Bool
wakes n w e = e.asleep && (on_word w e && needs_told (condition e.operation) (told_state n))

abbrev pub wake : Option Notice → ℕ → Entry → Entry
wake n w e = cond (wakes n w e) (set_asleep false e) e

-- how many sleepers of all lists a notice wakes
abbrev pub woken : State → Option Notice → ℕ → ℕ
woken s n w = over_cores (λ c. count_by (wakes n w) (s.waiting c))
