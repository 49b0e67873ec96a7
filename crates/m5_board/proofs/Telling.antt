-- What the watchers of a key are told.
use Rattle.std.proofs.Common.{◌≡◌, ℕ, zero, suc, ◌+◌, ◌-◌, ◌<◌, ◌≤◌, true, false, List, [], ◌∷◌, ◌++◌, length, get_or, take, if◌then◌else◌, refl, sym, ap, ◌∙◌, arith}
use Rattle.std.specs.Prelude.{Result, Ok, Err, OnOk, All}
use Rattle.std.proofs.lemmas.List.Elements.{All-head, All-tail, All-cons, All-nil}
use Rattle.std.proofs.lemmas.List.{take_more, take_all}
use Rattle.std.specs.Str.{bytes_eq}
use Rattle.m5_keys.specs.declared.watch.Watch.{Watch}
use Rattle.m5_keys.specs.declared.watch.Watcher.{Watcher}
use Rattle.m5_keys.specs.Keys.{watchers_of}
use Rattle.m5_network.specs.Board.{Desk, Trigger, at_session, posted}
use Rattle.m5_board.specs.Boards.{desk_at, IsSession, ChangesDesk}
use Rattle.m5_board.specs.Answers.{fired, told}

-- to tell the watchers of the key is to tell the watches of it
pub told-is : {I : Type 0} (key text : List ℕ) (ws : List Watch) (D : ℕ → Desk I) → told key text (watchers_of ws key) D ≡ posted key text ws D
told-is key text [] D = refl
told-is {I} key text (w ∷ ws) D =
    let X : ℕ → Desk I = at_session w.session (record (D w.session) { triggers = (D w.session).triggers ++ record { key = key; number = w.number; text = text } ∷ [] }) D in
    elim (bytes_eq w.key key) as (λ b. told key text (if b then record { session = w.session; number = w.number } ∷ watchers_of ws key else watchers_of ws key) D ≡ (if b then posted key text ws X else posted key text ws D))
    [ true ↦ told-is key text ws X | false ↦ told-is key text ws D ]

-- each watcher is of a session that is there
pub all-there : {I : Type 0} (key : List ℕ) (ws : List Watch) (ds : List (Desk I)) → All (λ (w : Watch). IsSession w.session ds) ws → All (λ (w : Watcher). IsSession w.session ds) (watchers_of ws key)
all-there key [] ds h = All-nil _
all-there {I} key (w ∷ ws) ds h =
    let There : Watch → Type 0 = λ x. IsSession x.session ds in
    let Told : Watcher → Type 0 = λ x. IsSession x.session ds in
    let rest : All Told (watchers_of ws key) = all-there key ws ds (All-tail There w ws h) in
    elim (bytes_eq w.key key) as (λ b. All Told (if b then record { session = w.session; number = w.number } ∷ watchers_of ws key else watchers_of ws key))
    [ true ↦ All-cons Told (record { session = w.session; number = w.number }) (watchers_of ws key) (All-head There w ws h) rest | false ↦ rest ]

told-append : {I : Type 0} (key text : List ℕ) (vs ws : List Watcher) (f : ℕ → Desk I) → told key text (vs ++ ws) f ≡ told key text ws (told key text vs f)
told-append key text [] ws f = refl
told-append key text (v ∷ vs) ws f = told-append key text vs ws (fired (record { key = key; number = v.number; text = text }) v.session f)

told-last : {I : Type 0} (key text : List ℕ) (ws : List Watcher) (i : ℕ) (d : Watcher) (f : ℕ → Desk I) → i < length ws → told key text (take (i + 1) ws) f ≡ told key text (get_or ws i d ∷ []) (told key text (take i ws) f)
told-last key text ws i d f l =
    ap (λ (xs : List Watcher). told key text xs f) (take_more ws i d l) ∙ told-append key text (take i ws) (get_or ws i d ∷ []) f

-- one more is told
pub told-next : {I : Type 0} (key text : List ℕ) (ws : List Watcher) (i : ℕ) (d : Watcher) (A B f : ℕ → Desk I) → i < length ws → A ≡ told key text (take i ws) f → B ≡ told key text (get_or ws i d ∷ []) A → B ≡ told key text (take (i + 1) ws) f
told-next {I} key text ws i d A B f l a b = b ∙ (ap (told key text (get_or ws i d ∷ [])) a ∙ sym (told-last key text ws i d f l))

-- and the last one of n is taken off again
pub untold-next : {I : Type 0} (ws : List Watcher) (n : ℕ) (d : Watcher) (A B : ℕ → Desk I) → 0 < n → n ≤ length ws
    → ((g : ℕ → Desk I) → (t : Trigger) → A ≡ fired t (get_or ws (n - 1) d).session g → B ≡ g)
    → (key text : List ℕ) (f : ℕ → Desk I) → A ≡ told key text (take n ws) f → B ≡ told key text (take (n - 1) ws) f
untold-next ws n d A B p l u key text f a =
    let e : n ≡ (n - 1) + 1 = omega (arith, p) in
    let w : n - 1 < length ws = omega (arith, p, l) in
    u (told key text (take (n - 1) ws) f) (record { key = key; number = (get_or ws (n - 1) d).number; text = text })
    (a ∙ (ap (λ (m : ℕ). told key text (take m ws) f) e ∙ told-last key text ws (n - 1) d f w))

pub told-all : {I : Type 0} (key text : List ℕ) (ws : List Watcher) (i : ℕ) (A f : ℕ → Desk I) → length ws ≤ i → A ≡ told key text (take i ws) f → A ≡ told key text ws f
told-all key text ws i A f l a = a ∙ ap (λ (xs : List Watcher). told key text xs f) (take_all i ws l)

-- nobody is told
pub told-none : {I : Type 0} (key text : List ℕ) (ws : List Watcher) (i : ℕ) (A f : ℕ → Desk I) → i ≤ 0 → A ≡ told key text (take i ws) f → A ≡ f
told-none key text ws zero A f l a = a
told-none key text ws (suc i) A f l a = absurd (omega (arith, l))

-- also in other lists of as many desks
pub still-there : {I : Type 0} (ws : List Watcher) (ds es : List (Desk I)) → length es ≡ length ds → All (λ (w : Watcher). IsSession w.session ds) ws → All (λ (w : Watcher). IsSession w.session es) ws
still-there [] ds es e h = All-nil _
still-there {I} (w ∷ ws) ds es e h =
    let There : Watcher → Type 0 = λ x. IsSession x.session ds in
    let here : IsSession w.session ds = All-head There w ws h in
    All-cons (λ (x : Watcher). IsSession x.session es) w ws (here.0, omega (arith, here.1, e)) (still-there ws ds es e (All-tail There w ws h))

pub tells : {I A E : Type 0} (r : Result A E) (key text : List ℕ) (w : Watcher) (t : Trigger) (ds es : List (Desk I)) → t ≡ record { key = key; number = w.number; text = text } → OnOk r (ChangesDesk w.session (λ (d : Desk I). record d { triggers = d.triggers ++ t ∷ [] }) ds es) → OnOk r (desk_at es ≡ told key text (w ∷ []) (desk_at ds))
tells (Err x) key text w t ds es e h = tt
tells {I} (Ok x) key text w t ds es e h = h.desk ∙ ap (λ (y : Trigger). at_session w.session (record (desk_at ds w.session) { triggers = (desk_at ds w.session).triggers ++ y ∷ [] }) (desk_at ds)) e
