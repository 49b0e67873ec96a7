-- Threads that begin one after the other.
use Rattle.std.proofs.Common.{◌≡◌, ℕ, zero, suc, ◌+◌, List, [], ◌∷◌, ◌++◌, refl, sym, ◌∙◌, ap, append_assoc, append-nil, take, get_or, ◌<◌, length, Some, add-zero, arith, sum_by}
use Rattle.std.proofs.lemmas.List.Sums.{sum_by-append, sum_by-cons}
use Rattle.std.proofs.lemmas.List.{take_more}
use Rattle.std.specs.Prelude.{slice_get}
use Rattle.m5_terms.specs.Size.{frame_size, frames_size}
use Rattle.m5_terms.specs.declared.types.World.{World}
use Rattle.m5_terms.specs.declared.thread.Frame.{Frame}
use Rattle.m5_meaning.specs.Site.{Thread, thread_size, Site}
use Rattle.m5_meaning.specs.Step.{begun, handler_thread, handler_threads}

pub begun_none : (s : Site) → begun s [] ≡ s
begun_none s = rw (append-nil s.threads, add-zero s.weight) refl

pub begun_both : (s : Site) (ts us : List Thread) → begun (begun s ts) us ≡ begun s (ts ++ us)
begun_both s ts us =
    let weight : (s.weight + sum_by thread_size ts) + sum_by thread_size us ≡ s.weight + sum_by thread_size (ts ++ us) = omega (arith, sum_by-append thread_size ts us) in
    rw (append_assoc, weight) refl

pub one_more : (u : World) (s : Site) (ns : List ℕ) (n : ℕ) (t : List ℕ) → handler_threads u s (ns ++ n ∷ []) t ≡ handler_threads u s ns t ++ handler_thread u t (slice_get s.handlers n)
one_more u s [] n t = append-nil (handler_thread u t (slice_get s.handlers n))
one_more u s (m ∷ ns) n t = rw (one_more u s ns n t) (sym (append_assoc (handler_thread u t (slice_get s.handlers m)) (handler_threads u s ns t) (handler_thread u t (slice_get s.handlers n))))

-- one frame more
frame_more : (xs : List Frame) (i : ℕ) (x : Frame) → slice_get xs i ≡ Some x → frames_size (take (suc i) xs) ≡ frames_size (take i xs) + frame_size x
frame_more [] i x e = cc
frame_more (y ∷ ys) zero x e = let k : y ≡ x = cc in rw k (omega (arith, sum_by-cons frame_size x []))
frame_more (y ∷ ys) (suc i) x e = omega (arith, frame_more ys i x e, sum_by-cons frame_size y (take (suc i) ys), sum_by-cons frame_size y (take i ys))

pub frame_next : (xs : List Frame) (i j : ℕ) (x : Frame) → j ≡ suc i → slice_get xs i ≡ Some x → frames_size (take j xs) ≡ frames_size (take i xs) + frame_size x
frame_next xs i j x e h = rw e (frame_more xs i x h)

-- the threads of one handler more
pub handlers_more : (u : World) (s a b : Site) (ns : List ℕ) (i n : ℕ) (t : List ℕ) → i < length ns → n ≡ get_or ns i 0 → a ≡ begun s (handler_threads u s (take i ns) t) → b ≡ begun a (handler_thread u t (slice_get a.handlers n)) → b ≡ begun s (handler_threads u s (take (i + 1) ns) t)
handlers_more u s a b ns i n t h m e d =
    let ts : List Thread = handler_threads u s (take i ns) t in
    let us : List Thread = handler_thread u t (slice_get s.handlers n) in
    let split : take (i + 1) ns ≡ take i ns ++ n ∷ [] = rw m (take_more ns i 0 h) in
    let all : handler_threads u s (take (i + 1) ns) t ≡ ts ++ us = ap (λ (xs : List ℕ). handler_threads u s xs t) split ∙ one_more u s (take i ns) n t in
    let step : begun a (handler_thread u t (slice_get a.handlers n)) ≡ begun (begun s ts) us = ap (λ (z : Site). begun z (handler_thread u t (slice_get z.handlers n))) e in
    d ∙ (step ∙ (begun_both s ts us ∙ sym (ap (begun s) all)))
