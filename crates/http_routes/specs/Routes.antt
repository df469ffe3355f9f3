-- The resources of the desk: their paths, and the methods that they serve.
use Rattle.std.specs.Prelude.{◌≡◌, ℕ, ◌≤◌, ◌++◌, Bool, true, false, not, ◌&&◌, ◌||◌, nat_eq, nat_le, List, [], codes, bytes_eq, decimal}
use Rattle.std.specs.List.{list_all, starts_with}
use Rattle.desk_model.specs.declared.call.Target.TheVariants as target
use Rattle.desk_model.specs.{Limits.last_number, declared.reply.Allow.Allow}
use Rattle.desk_model.specs.declared.reply.Allow.TheVariants as allow
use Rattle.http_routes.specs.declared.routes.{OfficeResource.OfficeResource, Resource.Resource, Route.Route}
use Rattle.http_routes.specs.declared.routes.OfficeResource.TheVariants as office
use Rattle.http_routes.specs.declared.routes.Resource.TheVariants as resource
use Rattle.http_routes.specs.declared.routes.Route.TheVariants as route

-- ---- paths

-- the decimal text of a number that an object may have
pub record IsNumberText (text : List ℕ) (n : ℕ) : Type 0 where
  pub digits : text ≡ decimal n
  pub first : 1 ≤ n
  pub last : n ≤ last_number

-- the path has such a text between these two
pub record HasNumber (path before : List ℕ) (n : ℕ) (after : List ℕ) : Type 0 where
  pub text : List ℕ
  pub place : path ≡ before ++ (text ++ after)
  pub number : IsNumberText text n

-- ---- routes

-- the text of a path of this route before its number, or all of it (RFC 8555, 7.1)
abbrev pub prefix : Route → List ℕ
prefix route.Directory = codes "/directory"
prefix route.NewNonce = codes "/new-nonce"
prefix route.NewAccount = codes "/new-account"
prefix route.KeyChange = codes "/key-change"
prefix route.NewOrder = codes "/new-order"
prefix route.Account = codes "/account/"
prefix route.Orders = codes "/account/"
prefix route.Order = codes "/order/"
prefix route.Finalize = codes "/order/"
prefix route.Cert = codes "/cert/"
prefix route.Authz = codes "/authz/"
prefix route.Chall = codes "/chall/"
prefix route.Key = codes "/office/key/"
prefix route.ChallengeWork = codes "/office/challenges"
prefix route.OrderWork = codes "/office/orders"
prefix route.Report = codes "/office/report/"
prefix route.Certify = codes "/office/certify/"
prefix route.FailOrder = codes "/office/fail/"
prefix route.RevokeAuthz = codes "/office/revoke-authz/"
prefix route.RevokeAccount = codes "/office/revoke-account/"
prefix route.Page = codes "/office/page"
prefix route.Look = codes "/office/look"
prefix route.Metrics = codes "/office/metrics"
prefix route.Backup = codes "/office/backup"

-- and the text behind the number
abbrev pub suffix : Route → List ℕ
suffix route.Orders = codes "/orders"
suffix route.Finalize = codes "/finalize"
suffix _ = []

-- whether a path of this route has a number
abbrev pub is_numbered : Route → Bool
is_numbered route.Directory = false
is_numbered route.NewNonce = false
is_numbered route.NewAccount = false
is_numbered route.KeyChange = false
is_numbered route.NewOrder = false
is_numbered route.ChallengeWork = false
is_numbered route.OrderWork = false
is_numbered route.Page = false
is_numbered route.Look = false
is_numbered route.Metrics = false
is_numbered route.Backup = false
is_numbered _ = true

-- the text of a route: that of its paths, with `{n}` in the place of their number
abbrev pub text_by : Bool → Route → List ℕ
text_by false r = prefix r
text_by true r = prefix r ++ (codes "{n}" ++ suffix r)

abbrev pub text_of : Route → List ℕ
text_of r = text_by (is_numbered r) r

-- the path is of this route: its text, with a number in decimal where it has one (0 stands for none)
abbrev pub IsPathText : Bool → List ℕ → Route → ℕ → Type 0
IsPathText false path r n = (path ≡ prefix r) × (n ≡ 0)
IsPathText true path r n = HasNumber path (prefix r) n (suffix r)

-- the resource of a route and a number
abbrev pub resource_of : Route → ℕ → Resource
resource_of route.Directory n = resource.Directory
resource_of route.NewNonce n = resource.NewNonce
resource_of route.NewAccount n = resource.Signed target.NewAccount
resource_of route.KeyChange n = resource.Signed target.KeyChange
resource_of route.NewOrder n = resource.Signed target.NewOrder
resource_of route.Account n = resource.Signed (target.Account n)
resource_of route.Orders n = resource.Signed (target.Orders n)
resource_of route.Order n = resource.Signed (target.Order n)
resource_of route.Finalize n = resource.Signed (target.Finalize n)
resource_of route.Cert n = resource.Signed (target.Cert n)
resource_of route.Authz n = resource.Signed (target.Authz n)
resource_of route.Chall n = resource.Signed (target.Chall n)
resource_of route.Key n = resource.Office (office.Key n)
resource_of route.ChallengeWork n = resource.Office office.ChallengeWork
resource_of route.OrderWork n = resource.Office office.OrderWork
resource_of route.Report n = resource.Office (office.Report n)
resource_of route.Certify n = resource.Office (office.Certify n)
resource_of route.FailOrder n = resource.Office (office.FailOrder n)
resource_of route.RevokeAuthz n = resource.Office (office.RevokeAuthz n)
resource_of route.RevokeAccount n = resource.Office (office.RevokeAccount n)
resource_of route.Page n = resource.Office office.Page
resource_of route.Look n = resource.Office office.Look
resource_of route.Metrics n = resource.Office office.Metrics
resource_of route.Backup n = resource.Office office.Backup

-- the path leads to the resource: it is the text of a route that does
pub record IsResourceAt (path : List ℕ) (x : Resource) : Type 0 where
  pub route : Route
  pub number : ℕ
  pub text : IsPathText (is_numbered route) path route number
  pub leads : x ≡ resource_of route number

-- a printable character of ASCII, and no space
abbrev pub is_visible_byte : ℕ → Bool
is_visible_byte c = nat_le 33 c && nat_le c 126

abbrev pub is_visible : List ℕ → Bool
is_visible text = list_all is_visible_byte text

-- a path inside the house
abbrev pub is_inside : List ℕ → Bool
is_inside path = starts_with nat_eq path (codes "/office/")

-- the reply has the link to the directory, but on the directory itself and inside the house (RFC 8555, 7.1)
abbrev pub has_index : List ℕ → Bool
has_index path = not (bytes_eq path (codes "/directory")) && not (is_inside path)

-- ---- methods

abbrev pub office_methods : OfficeResource → Allow
office_methods (office.Key n) = allow.Get
office_methods office.ChallengeWork = allow.Get
office_methods office.OrderWork = allow.Get
office_methods (office.Report n) = allow.Post
office_methods (office.Certify n) = allow.Post
office_methods (office.FailOrder n) = allow.Post
office_methods (office.RevokeAuthz n) = allow.Post
office_methods (office.RevokeAccount n) = allow.Post
office_methods office.Page = allow.Get
office_methods office.Look = allow.Post
office_methods office.Metrics = allow.Get
office_methods office.Backup = allow.Get

-- the methods that a resource serves: signed requests are posted (RFC 8555, 6.3), and a nonce is asked by GET or HEAD (7.2)
abbrev pub methods_of : Resource → Allow
methods_of resource.Directory = allow.Get
methods_of resource.NewNonce = allow.GetHead
methods_of (resource.Signed t) = allow.Post
methods_of (resource.Office o) = office_methods o

-- the methods hold this one
abbrev pub serves : Allow → List ℕ → Bool
serves allow.No method = false
serves allow.Get method = bytes_eq method (codes "GET")
serves allow.GetHead method = bytes_eq method (codes "GET") || bytes_eq method (codes "HEAD")
serves allow.Post method = bytes_eq method (codes "POST")
