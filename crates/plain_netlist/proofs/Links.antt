-- Chains join, turn round and map.
use Rattle.std.proofs.Common.{◌≡◌, List, [], ◌∷◌, refl, sym, ap, subst}
use Rattle.plain_netlist.specs.Chains.{IsChain, Reaches}

pub stays : {A : Type 0} (R : A → A → Type 0) (a b : A) → a ≡ b → Reaches R a b
stays R a b e = record { via = []; chain = e }

pub single : {A : Type 0} (R : A → A → Type 0) (a b : A) → R a b → Reaches R a b
single R a b h = record { via = b ∷ []; chain = (h, refl) }

pub prepend : {A : Type 0} (R : A → A → Type 0) (a b c : A) → R a b → Reaches R b c → Reaches R a c
prepend R a b c h g = record { via = b ∷ g.via; chain = (h, g.chain) }

chain_on : {A : Type 0} (R : A → A → Type 0) (a b c : A) (xs : List A) → IsChain R a xs b → Reaches R b c → Reaches R a c
chain_on R a b c [] h g = subst (λ x. Reaches R x c) (sym h) g
chain_on R a b c (x ∷ xs) h g = prepend R a x c h.0 (chain_on R x b c xs h.1 g)

pub both : {A : Type 0} (R : A → A → Type 0) (a b c : A) → Reaches R a b → Reaches R b c → Reaches R a c
both R a b c h g = chain_on R a b c h.via h.chain g

chain_back : {A : Type 0} (R : A → A → Type 0) → ((a b : A) → R a b → R b a) → (a b : A) (xs : List A) → IsChain R a xs b → Reaches R b a
chain_back R turn a b [] h = stays R b a (sym h)
chain_back R turn a b (x ∷ xs) h = both R b x a (chain_back R turn x b xs h.1) (single R x a (turn a x h.0))

pub back : {A : Type 0} (R : A → A → Type 0) → ((a b : A) → R a b → R b a) → (a b : A) → Reaches R a b → Reaches R b a
back R turn a b h = chain_back R turn a b h.via h.chain

chain_along : {A B : Type 0} (R : A → A → Type 0) (S : B → B → Type 0) (f : A → B) → ((a b : A) → R a b → Reaches S (f a) (f b)) → (a b : A) (xs : List A) → IsChain R a xs b → Reaches S (f a) (f b)
chain_along R S f step a b [] h = stays S (f a) (f b) (ap f h)
chain_along R S f step a b (x ∷ xs) h = both S (f a) (f x) (f b) (step a x h.0) (chain_along R S f step x b xs h.1)

-- a chain's image, link by link
pub along : {A B : Type 0} (R : A → A → Type 0) (S : B → B → Type 0) (f : A → B) → ((a b : A) → R a b → Reaches S (f a) (f b)) → (a b : A) → Reaches R a b → Reaches S (f a) (f b)
along R S f step a b h = chain_along R S f step a b h.via h.chain
