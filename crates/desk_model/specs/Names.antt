-- The name that a text of an identifier stands for (RFC 8555, 7.1.3 and 7.1.4; UTS 46).
use Rattle.std.specs.Prelude.{◌≡◌, ℕ, Bool, true, false, ◌==◌, ◌≢◌, List, [], ◌++◌, drop, codes, Option, Some, None, IsTrue, All}
use Rattle.std.specs.Prelude.{option_and_then, nat_eq, if◌then◌else◌}
use Rattle.std.specs.List.{list_any, starts_with}
use Rattle.idna.specs.Uts46.{to_ascii}
use Rattle.idna.specs.declared.{deny_list.TheConstants.AsciiDenyList.EMPTY, options.Hyphens.TheVariants.Allow, options.DnsLength.TheVariants.Ignore}
use Rattle.desk_model.specs.{BaseName.is_base_name, Name.Name}

-- the type of identifiers that are names (RFC 8555, 9.7.7)
abbrev pub dns_type : List ℕ
dns_type = codes "dns"

-- ToASCII of UTS 46 with an empty deny list, hyphens allowed and DNS lengths unchecked
abbrev pub ascii_form : List ℕ → Option (List ℕ)
ascii_form rest = to_ascii EMPTY Allow Ignore rest

-- what stands before the rest of a name
abbrev pub mark_of : Bool → List ℕ
mark_of true = codes "*."
mark_of false = []

-- the text stands for the name with this base: as a whole, and with no reference to how it is read
pub record IsNameOf (text base : List ℕ) (wildcard : Bool) : Type 0 where
  pub rest : List ℕ
  pub whole : text ≡ mark_of wildcard ++ rest
  pub unstarred : All (λ c. c ≢ 42) rest
  pub ascii : ascii_form rest ≡ Some base
  pub well_formed : IsTrue (is_base_name base)

-- the canonical text of a name
abbrev pub shown_name : Name → List ℕ
shown_name name = mark_of name.wildcard ++ name.base

-- the name with this rest behind its mark, if there is one
abbrev pub name_with : Bool → List ℕ → Option Name
name_with wildcard rest =
    if list_any (λ c. c == 42) rest then None
    else option_and_then (λ base. if is_base_name base then Some (record { base = base; wildcard = wildcard }) else None) (ascii_form rest)

-- the name that the text stands for, if it stands for one
unfoldable pub name_of : List ℕ → Option Name
name_of text = if starts_with nat_eq text (codes "*.") then name_with true (drop 2 text) else name_with false text
