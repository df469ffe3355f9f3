-- Statuses are told by their texts as by their codes.
use Rattle.std.proofs.Common.{◌≡◌, rules}
use Rattle.std.specs.Prelude.{◌==◌, bytes_eq}
use Rattle.desk_model.specs.Document.{authorization_status_text, order_status_text}
use Rattle.desk_model.specs.{Derived.authz_code, Derived.order_code, declared.status.AuthzStatus.AuthzStatus, declared.status.OrderStatus.OrderStatus}

-- of an order
pub order_status_test : (s t : OrderStatus) → bytes_eq (order_status_text s) (order_status_text t) ≡ (order_code s == order_code t)
order_status_test s t = search rules

-- of an authorization
pub authorization_status_test : (s t : AuthzStatus)
    → bytes_eq (authorization_status_text s) (authorization_status_text t) ≡ (authz_code s == authz_code t)
authorization_status_test s t = search rules
