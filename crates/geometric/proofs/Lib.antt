pub mod GeometricLaws
