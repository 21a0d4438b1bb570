-- Pushing an entry into a RIB body where a builder stands (01, RIB bodies): 8 for a length beyond the output, then 6, then 7 (a head that
-- cannot be read, a builder that is none of this body), then 10 (the 65,536th entry, attributes above 65,535 octets, a path number
-- where the subtype has none), then 9 for too little room. The entry goes straight after the body, and the count is raised.
use Rattle.std.specs.Prelude.{ℕ, ◌+◌, ◌-◌, List, Bool, cond, not, ◌&&◌, ◌||◌, length, take, ltb, eqb, Result, Ok, Err}
use Rattle.answer.specs.Refusal.{number_of}
use Rattle.answer.specs.declared.Refusal.{Refusal}
use Rattle.octets.specs.Octets.{bytes_of, patch}
use Rattle.rib_head.specs.Layout.{path_size}
use Rattle.rib_head.specs.Head.{count_at, declared, check_rib}
use Rattle.rib_write.specs.Layout.{entry_octets}
use Rattle.rib_write.specs.declared.NewEntry.{NewEntry}
use Rattle.rib_write.specs.declared.Builder.{Builder}

-- a value does not fit its field, in a body of so many entries: one entry more, m octets of attributes, the path number
unfoldable pub unfit : ℕ → ℕ → ℕ → ℕ → Bool
unfit count t path m = eqb count 65535 || ltb 65535 m || (eqb (path_size t) 0 && not (eqb path 0))

-- the entry with octets bs after the first len octets of s, and its count, which stands at `at`, raised to n
unfoldable pub added : List ℕ → ℕ → List ℕ → ℕ → ℕ → List ℕ
added s len bs at n = patch (patch s len bs) at (bytes_of 2 n)

-- a push in numbers: the refusal's number or 0, the builder after it, and the output after the call
pub record Pushing : Type 0 where
  pub number : ℕ
  pub len : ℕ
  pub at : ℕ
  pub count : ℕ
  pub output : List ℕ

-- the refusal n, which leaves the output s
abbrev pub unpushed : ℕ → List ℕ → Pushing
unpushed n s = record { number = n; len = 0; at = 0; count = 0; output = s }

-- what an answer says, with the output t that the call leaves
abbrev pub pushed : Result Builder Refusal → List ℕ → Pushing
pushed (Ok b) t = record { number = 0; len = b.len; at = b.at; count = b.count; output = t }
pushed (Err r) t = unpushed (number_of r) t

-- 0 where the builder b is one of the body s, as far as its head tells: the refusal of the head, then 7 where the count stands
-- elsewhere or is another
unfoldable pub standing : List ℕ → ℕ → Builder → ℕ
standing s t b =
    cond (eqb (check_rib s t) 0) (cond (eqb b.at (count_at s) && eqb b.count (declared s)) 0 7) (check_rib s t)

-- the entry e after the first b .len octets of the output s: 10, then 9
unfoldable pub push_after : List ℕ → ℕ → Builder → NewEntry → List ℕ → Pushing
push_after s t b e attributes =
    cond (unfit b.count t e.path (length attributes)) (unpushed 10 s)
    (cond (ltb (length s - b.len) (length (entry_octets (path_size t) e attributes))) (unpushed 9 s)
    (record {
      number = 0;
      len = b.len + length (entry_octets (path_size t) e attributes);
      at = b.at;
      count = b.count + 1;
      output = added s b.len (entry_octets (path_size t) e attributes) b.at (b.count + 1);
    }))

-- the entry e where the builder b stands in the output s: 8 for a length beyond the output, 6, 7 for no builder of what stands
-- there, then 10 and 9
unfoldable pub push_entry : List ℕ → ℕ → Builder → NewEntry → List ℕ → Pushing
push_entry s t b e attributes =
    cond (ltb (length s) b.len) (unpushed 8 s)
    (cond (eqb (standing (take b.len s) t b) 0) (push_after s t b e attributes) (unpushed (standing (take b.len s) t b) s))
