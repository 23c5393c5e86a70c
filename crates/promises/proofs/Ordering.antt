-- Requests of one core on one word are decided in the order of their issue.
use Rattle.std.proofs.Common.{◌≡◌, ℕ, ◌<◌, ◌≤◌, List, [], ◌∷◌, Some, None, Option, sym, ap, ◌∙◌, subst, ⊎_elim, arith}
use Rattle.std.proofs.lemmas.Bool.Decides.{nat_tests}
use Rattle.std.proofs.lemmas.Bool.{cases_eq}
use Rattle.std.proofs.lemmas.List.Sums.{sum_by-cons}
use Rattle.promises.specs.Board.{Entry, Tenure, Bus, free, granted, snooped, State}
use Rattle.promises.specs.OneMemory.{Note, TaggedMemory, serve_noted, decide}
use Rattle.promises.specs.Promises.{times, SamePlace, InIssueOrder, IsDecidedOnce}
use Rattle.promises.proofs.Counting.{one}
use Rattle.promises.proofs.Entries.{every_weaker, every_both, every_present}
use Rattle.promises.proofs.Rising.{Rising, Each, Within}
use Rattle.promises.proofs.Deciding.{counts_it}
use Rattle.promises.proofs.Sound.{note_of, Noted, WaitsIn}

-- a note of core c on word w
abbrev pub At : ℕ → ℕ → Option Note → Type 0
At c w None = ⊥
At c w (Some x) = (x.core ≡ c) × (x.word ≡ w)

same_at : (y : Option Note) (x : Note) → SamePlace y (Some x) → At x.core x.word y
same_at y x h = grind arith

-- the tenure's request is the oldest of its core on its word
abbrev pub OldestOnWord : State → Tenure → Type 0
OldestOnWord s t = (c : ℕ) → Each (λ k w. t.core ≡ c → t.entry.word ≡ w → t.entry.number ≤ k) (s.waiting c)

abbrev pub Oldest : State → Bus → Type 0
Oldest s free = Unit {0}
Oldest s (granted t) = OldestOnWord s t
Oldest s (snooped t f) = OldestOnWord s t

-- what was decided of core c on word w has no larger number than k
abbrev pub Earlier : TaggedMemory → ℕ → ℕ → ℕ → Type 0
Earlier m c k w = (j : ℕ) → 1 ≤ times j m.decided → At c w (m.noted j) → j ≤ k

pub record Ordered (m : TaggedMemory) (s : State) : Type 0 where
  pub rising : (c : ℕ) → Rising (s.waiting c)
  pub below : (j : ℕ) → 1 ≤ times j m.decided → j < s.next
  pub oldest : Oldest s s.bus
  pub earlier : (c : ℕ) → Each (Earlier m c) (s.waiting c)
  pub order : InIssueOrder m m.decided

-- the order of decisions looks at the notes of what is decided only
pub order_same : (m n : TaggedMemory) (ks : List ℕ) → ((j : ℕ) → 1 ≤ times j ks → n.noted j ≡ m.noted j) → InIssueOrder m ks → InIssueOrder n ks
order_same m n [] same h = tt
order_same m n (k ∷ ks) same h = (
  (λ j often place. grind (arith, nat_tests, h.0 j often, same j, same k, sum_by-cons (one j) k ks, sum_by-cons (one k) k ks)),
  order_same m n ks (λ j often. same j (omega (arith, often, sum_by-cons (one j) k ks))) h.1,
)

-- fewer requests wait, and nothing more is decided
pub fewer_wait : (m : TaggedMemory) (s t : State) → Ordered m s → ((c : ℕ) → Within (s.waiting c) (t.waiting c)) → s.next ≤ t.next → Oldest t t.bus → Ordered m t
fewer_wait m s t was lists next oldest = record {
  rising = λ c. (lists c).rising (was.rising c);
  below = λ j often. omega (arith, was.below j often, next);
  oldest = oldest;
  earlier = λ c. (lists c).each (Earlier m c) (was.earlier c);
  order = was.order;
}

pub oldest_within : (s t : State) (x : Tenure) → ((c : ℕ) → Within (s.waiting c) (t.waiting c)) → OldestOnWord s x → OldestOnWord t x
oldest_within s t x lists h c = (lists c).each (λ k w. x.core ≡ c → x.entry.word ≡ w → x.entry.number ≤ k) (h c)

pub oldest_kept : (s t : State) (b : Bus) → ((c : ℕ) → Within (s.waiting c) (t.waiting c)) → Oldest s b → Oldest t b
oldest_kept s t free lists h = tt
oldest_kept s t (granted x) lists h = oldest_within s t x lists h
oldest_kept s t (snooped x f) lists h = oldest_within s t x lists h

-- a noted request is decided that is the oldest waiting one, and the newest decided one, of its core on its word
pub decide_ordered : (m : TaggedMemory) (s : State) (k : ℕ) (x : Note) → m.noted k ≡ Some x → k < s.next → ((j : ℕ) → 1 ≤ times j m.decided → SamePlace (m.noted j) (Some x) → j < k) → ((c : ℕ) → Each (λ i w. x.core ≡ c → x.word ≡ w → k ≤ i) (s.waiting c)) → Ordered m s → Ordered (decide m k) s
decide_ordered m s k x noted below newest oldest was =
    subst (λ y. Ordered (serve_noted m k y) s) (sym noted)
    (record {
      rising = was.rising;
      below = λ j often. ⊎_elim (λ same. omega (arith, same, below)) (λ ne. was.below j (before j ne often)) (cases_eq j k);
      oldest = was.oldest;
      earlier = λ c. every_weaker (λ e. Earlier m c e.number e.word × (x.core ≡ c → x.word ≡ e.word → k ≤ e.number)) (λ e. Earlier (serve_noted m k (Some x)) c e.number e.word) (later c) (s.waiting c) (every_both (λ e. Earlier m c e.number e.word) (λ e. x.core ≡ c → x.word ≡ e.word → k ≤ e.number) (s.waiting c) (was.earlier c) (oldest c));
      order = grind (arith, nat_tests);
    })
  where
    before : (j : ℕ) → (j ≡ k → ⊥) → 1 ≤ times j (k ∷ m.decided) → 1 ≤ times j m.decided
    before j ne often = grind (arith, nat_tests, sum_by-cons (one j) k m.decided)

    later : (c : ℕ) (e : Entry) → Earlier m c e.number e.word × (x.core ≡ c → x.word ≡ e.word → k ≤ e.number) → Earlier (serve_noted m k (Some x)) c e.number e.word
    later c e h j often at = grind (arith, nat_tests)

-- of the memory, order looks at the notes and the decisions alone
ordered_same : (m n : TaggedMemory) (s : State) → n.noted ≡ m.noted → n.decided ≡ m.decided → Ordered m s → Ordered n s
ordered_same m n s notes decided was = record {
  rising = was.rising;
  below = λ j often. was.below j (subst (λ ks. 1 ≤ times j ks) decided often);
  oldest = was.oldest;
  earlier = λ c. every_weaker (λ e. Earlier m c e.number e.word) (λ e. Earlier n c e.number e.word) (λ e h j often at. h j (subst (λ ks. 1 ≤ times j ks) decided often) (subst (At c e.word) (ap (λ f. f j) notes) at)) (s.waiting c) (was.earlier c);
  order = subst (InIssueOrder n) (sym decided) (order_same m n m.decided (λ j often. ap (λ f. f j) notes) was.order);
}

-- the tenure's request is decided
pub tenure_decided : (m n : TaggedMemory) (s : State) (t : Tenure) → WaitsIn s t → Noted m s.next t.core t.entry → OldestOnWord s t → n.noted ≡ m.noted → n.decided ≡ t.entry.number ∷ m.decided → IsDecidedOnce n → Ordered m s → Ordered n s
tenure_decided m n s t here noted old notes decided once was =
    ordered_same (decide m t.entry.number) n s (notes ∙ sym (grind arith)) (decided ∙ sym (counts_it m t.entry.number (m.noted t.entry.number)))
    (decide_ordered m s t.entry.number (note_of t.core t.entry) noted.note noted.below newest old was)
  where
    newest : (j : ℕ) → 1 ≤ times j m.decided → SamePlace (m.noted j) (Some (note_of t.core t.entry)) → j < t.entry.number
    newest j often place =
        let most = every_present (λ e. Earlier m t.core e.number e.word) t.entry (s.waiting t.core) (λ e same h i often at. omega (arith, same.number, h i often (subst (λ w. At t.core w (m.noted i)) same.word at))) (was.earlier t.core) here.present j often (same_at (m.noted j) (note_of t.core t.entry) place) in
        ⊎_elim
        (λ same. grind (arith, nat_tests, subst (λ ks. times t.entry.number ks ≤ 1) decided (once t.entry.number), sum_by-cons (one t.entry.number) t.entry.number m.decided, subst (λ i. 1 ≤ times i m.decided) same often))
        (λ ne. omega (arith, most, ne))
        (cases_eq j t.entry.number)
