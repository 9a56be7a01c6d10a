-- A book, field by field.
use Rattle.std.proofs.Common.{◌≡◌, ℕ, ◌+◌, ◌<◌, List, [], ◌∷◌, ◌++◌, map, length, get_or, take, IfOk, None, Ok, Err, vec_items, Option, Result, Vec, sym, refl, ap, ◌∙◌, subst}
use Rattle.std.proofs.lemmas.List.{take_more, map_push}
use Rattle.std.proofs.lemmas.Result.{IfOk-weaker}
use Rattle.std.specs.declared.alloc.AllocError.{AllocError}
use Rattle.std.specs.declared.alloc.Global.{Global}
use Rattle.book.specs.declared.reader.Item.{Item}
use Rattle.book.specs.Book.{Entry, seen}
use Rattle.desk.specs.declared.replies.Outcome.{Outcome}
use Rattle.desk.specs.declared.service.Desk.{Desk}
use Rattle.book.specs.declared.faults.FieldFault.{FieldFault}
use Rattle.book.specs.Requests.{Request}
use Rattle.register.specs.declared.faults.RegisterFault.{RegisterFault}
use Rattle.register.specs.declared.state.Register.{Register}
use Rattle.rules.specs.Histories.{History}
use Rattle.margin.specs.declared.Figures.{Figures}
use Rattle.desk.specs.Service.{Lawful, next_of, ServesContent, Serves, Served, Begun, Runs}

-- one field more
served_more : (d m e : Desk) (u v : Option History) (xs : List Entry) (os : List Outcome) (x : Entry) (o : Outcome) → Served d u xs os m v → Serves m x o e →
    Served d u (xs ++ x ∷ []) (os ++ o ∷ []) e (next_of m v x.content)
served_more d m e u v [] [] x o same s =
    (e, subst (λ (y : Desk). Serves y x o e) (sym same.0) s, (refl, ap (λ (y : Desk). next_of y u x.content) same.0 ∙ ap (λ (w : Option History). next_of m w x.content) same.1))
served_more d m e u v [] (p ∷ ps) x o h s = absurd h
served_more d m e u v (y ∷ ys) [] x o h s = absurd h
served_more d m e u v (y ∷ ys) (p ∷ ps) x o h s = (h.0, h.1, served_more h.0 m e (next_of d u y.content) v ys ps x o h.2 s)

abbrev pub SoFar : Desk → List Entry → List Outcome → Desk → Type 0
SoFar d xs os e = (u : Option History) → (v : Option History) × Served d u xs os e v

pub turn : (d m e : Desk) (is : List Item) (i : ℕ) (x : Item) (os new : List Outcome) (o : Outcome) → i < length is → new ≡ os ++ o ∷ [] →
    SoFar d (map seen (take i is)) os m → Serves m (seen (get_or is i x)) o e → SoFar d (map seen (take (i + 1) is)) new e
turn d m e is i x os new o l n h s =
    let front : map seen (take (i + 1) is) ≡ map seen (take i is) ++ seen (get_or is i x) ∷ [] = ap (map seen) (take_more is i x l) ∙ map_push seen (take i is) (get_or is i x) in
    subst (λ (l : List Outcome). SoFar d (map seen (take (i + 1) is)) l e) (sym n) (
    subst (λ (xs : List Entry). SoFar d xs (os ++ o ∷ []) e) (sym front) (λ u. (next_of m (h u).0 (seen (get_or is i x)).content, served_more d m e u (h u).0 (map seen (take i is)) os (seen (get_or is i x)) o (h u).1 s)))

-- a lawful run stays one, field by field
lawful_content : (d e : Desk) (p : ℕ) (c : Result Request FieldFault) (a : Result (Option Figures) RegisterFault) (u : Option History) → ServesContent d p c a e → Lawful d.register u → Lawful e.register (next_of d u c)
lawful_content d e p (Ok q) a u s l = s.2 u l
lawful_content d e p (Err f) a u s l = subst (λ (y : Desk). Lawful y.register u) (sym s.1) l

lawful_served : (d e : Desk) (u v : Option History) (xs : List Entry) (os : List Outcome) → Served d u xs os e v → Lawful d.register u → Lawful e.register v
lawful_served d e u v [] [] s l = subst (λ (w : Option History). Lawful e.register w) s.1 (subst (λ (y : Desk). Lawful y.register u) s.0 l)
lawful_served d e u v [] (o ∷ os) s l = absurd s
lawful_served d e u v (x ∷ xs) [] s l = absurd s
lawful_served d e u v (x ∷ xs) (o ∷ os) s l =
    lawful_served s.0 e (next_of d u x.content) v xs os s.2 (lawful_content d s.0 x.place x.content o.answer u s.1.1 l)

pub whole : (r : Result (Vec Outcome Global) AllocError) (d e : Desk) (is : List Item) (xs : List Entry) → Begun d → map seen is ≡ xs → IfOk r (λ v. SoFar d (map seen is) (vec_items v) e) → IfOk r (λ v. Runs xs (vec_items v))
whole r d e is xs b same h =
    IfOk-weaker r (λ v. SoFar d (map seen is) (vec_items v) e) (λ v. Runs xs (vec_items v))
    (λ v s.
    let t = subst (λ (l : List Entry). SoFar d l (vec_items v) e) same s None in
    let l = subst (λ (g : Option Register). Lawful g None) (sym b.register) tt in
    record { first = d; last = e; history = t.0; begun = b; served = t.1; lawful = lawful_served d e None t.0 xs (vec_items v) t.1 l })
    h
