-- Each claim of specs/Order.antt, proved in one line by the law that it restates.
-- Assumes nothing.
use Rattle.order.proofs.OrderLaws as order
use Rattle.order.proofs.OrderExamples as table
use Rattle.claims.specs.Order.{SettingsInEitherOrder, PlacesInEitherOrder, ScriptsInEitherOrder, OrderExamples}

pub settings_in_either_order : SettingsInEitherOrder
settings_in_either_order = order.settings_in_either_order

pub places_in_either_order : PlacesInEitherOrder
places_in_either_order = order.places_in_either_order

pub scripts_in_either_order : ScriptsInEitherOrder
scripts_in_either_order = order.scripts_in_either_order

pub order_examples_lem : OrderExamples
order_examples_lem = table.order_examples_lem
