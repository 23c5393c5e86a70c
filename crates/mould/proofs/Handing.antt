-- What hand-overs one after another make.
use Rattle.std.proofs.Common.{◌≡◌, ℕ, ◌+◌, ◌*◌, ◌<◌, List, [], ◌∷◌, ◌++◌, ◌≤◌, map, length, take, drop, slice_index_or, sym, refl, ap, ◌∙◌, append_assoc, append-nil, add-one, drop-cons, arith}
use Rattle.std.proofs.lemmas.List.{take_more, length-take-le, drop_all, length-map, get_or-map, ext_get_or}
use Rattle.mould.specs.declared.exchange.Handed.{Handed}
use Rattle.mould.specs.declared.plan.Face.{Face}
use Rattle.mould.specs.Handed.{handed_by, all_handed_from, KeepsItsTolerance}

all_handed_from-push : (n : ℕ) (fs : List Face) (f : Face) → all_handed_from n (fs ++ f ∷ []) ≡ all_handed_from n fs ++ handed_by (n + 2 * length fs) f ∷ []
all_handed_from-push n [] f = grind arith
all_handed_from-push n (g ∷ fs) f = grind (arith, all_handed_from-push (n + 2) fs f)

-- one face more is handed over
pub handed_more : (i : ℕ) (fs : List Face) → i < length fs → all_handed_from 1 (take (i + 1) fs) ≡ all_handed_from 1 (take i fs) ++ handed_by (2 * i + 1) (slice_index_or fs i (record { number = 0; tolerance = 0 })) ∷ []
handed_more i fs h = grind (arith, take_more fs i (record { number = 0; tolerance = 0 }) h, all_handed_from-push 1 (take i fs), length-take-le)

pub handed_keeps : (n : ℕ) (fs : List Face) → KeepsItsTolerance fs (all_handed_from n fs)
handed_keeps n [] = refl
handed_keeps n (f ∷ fs) = ap (λ l. f ∷ l) (handed_keeps (n + 2) fs)

-- what is handed over from the first number on keeps its tolerances
pub handed_all : (fs : List Face) (hs : List Handed) → hs ≡ all_handed_from 1 fs → KeepsItsTolerance fs hs
handed_all fs hs e = rw e (handed_keeps 1 fs)

-- where some are handed over, and the rest from request n on would give them all: one face more
module _ (done all more : List Handed) (n m i : ℕ) (fs : List Face) (h : Handed) (d : Face) where
  pub rest_handed_more : more ≡ done ++ h ∷ [] → h ≡ handed_by n (slice_index_or fs i d) → m ≡ n + 2 → i < length fs → done ++ all_handed_from n (drop i fs) ≡ all → more ++ all_handed_from m (drop (i + 1) fs) ≡ all
  rest_handed_more pushed is two within e =
      let next : drop i fs ≡ slice_index_or fs i d ∷ drop (i + 1) fs = drop-cons fs i d within ∙ ap (λ k. slice_index_or fs i d ∷ drop k fs) (sym (add-one i)) in
      rw (pushed, two, is) (append_assoc done (handed_by n (slice_index_or fs i d) ∷ []) (all_handed_from (n + 2) (drop (i + 1) fs)) ∙ ap (λ l. done ++ all_handed_from n l) (sym next) ∙ e)

-- and no face more
pub rest_handed_all : (done all : List Handed) (n i : ℕ) (fs : List Face) → length fs ≤ i → done ++ all_handed_from n (drop i fs) ≡ all → done ≡ all
rest_handed_all done all n i fs past e = sym (append-nil done) ∙ ap (λ l. done ++ all_handed_from n l) (sym (drop_all i fs past)) ∙ e

abbrev face_of : Handed → Face
face_of h = h.face

-- tolerances are kept where there are as many faces, and each is the plan's
module _ (fs : List Face) (hs : List Handed) where
  pub kept_length : KeepsItsTolerance fs hs → length hs ≡ length fs
  kept_length kept = sym (length-map hs face_of) ∙ ap length kept

  pub kept_at : KeepsItsTolerance fs hs → (k : ℕ) (d : Handed) (e : Face) → k < length hs → (slice_index_or hs k d).face ≡ slice_index_or fs k e
  kept_at kept k d e below = sym (get_or-map face_of hs k d e below) ∙ ap (λ l. slice_index_or l k e) kept

  pub kept_from : length hs ≡ length fs → (d : Handed) (e : Face) → ((k : ℕ) → k < length fs → (slice_index_or hs k d).face ≡ slice_index_or fs k e) → KeepsItsTolerance fs hs
  kept_from long d e same =
      ext_get_or e (map face_of hs) fs (length-map hs face_of ∙ long)
      (λ k within. let below : k < length hs = omega (arith, length-map hs face_of) in get_or-map face_of hs k d e below ∙ same k (omega arith))
